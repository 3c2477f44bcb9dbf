use Rattle.std.proofs.Common.{ℕ, List, inl, inr, refl, ap, subst, ◌∙◌}
use Rattle.gpkt.specs.Sending.{output_of}
use Rattle.gobject.specs.Packs.{MayPack}
use Rattle.ghello.specs.Hello.{Hello}
use Rattle.gcmd.specs.Serving.{plain_pack_fails, plain_packs}
use Rattle.gtcp.specs.Sockets.{ServesEach}
use Rattle.gtcp.proofs.remote.serve_at.Goals as goal

pub returns-in-Err : goal.returns-in-Err
returns-in-Err g c = (
  (
    λ file names.
        inr (
          c.in-Err.fault,
          inr (c.args.server.now, names, c.in-Err.ensures.0),
          refl,
          record { written = refl; passed_on = refl; down = refl },
        ),
    refl,
  ),
  c.in-Err.ensures.1,
)

pub returns-in-Ok-announce : goal.returns-in-Ok-announce
returns-in-Ok-announce g c =
    let service = c.args.service.now in
    let errors = output_of g.E.Sink.contents g.E.Sink.passed_on g.E.Sink.is_down c.args.errors.now c.serve_listener.new.errors in (
      (
        λ file names. inl (record {
          server = c.args.server.now;
          names = names;
          announces = c.in-Ok-announce.ensures.0;
          serves =
              subst (λ (path : List ℕ). ServesEach c.args.server.now (MayPack plain_packs) plain_pack_fails path service.ends errors
              service.connections c.serve_listener.result)
              (c.path.ensures.path ∙ ap (λ (hello : Hello). hello.path) c.hello.ensures) c.serve_listener.ensures.serves;
        }),
        c.serve_listener.ensures.loans,
      ),
      c.in-Ok-announce.ensures.1,
    )
