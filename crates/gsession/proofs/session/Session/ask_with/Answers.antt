use Rattle.std.proofs.Common.{◌≡◌, ◌∙◌, List, All, ap, ap₂, subst, sym, refl}
use Rattle.std.proofs.lemmas.Result.{err_from_is_err_and}
use Rattle.gname.specs.Ids.{Id, IsIdOf}
use Rattle.gname.specs.declared.formats.Format.{Format}
use Rattle.grequest.specs.Asked.{Asked, FetchAsked, Fetches}
use Rattle.grequest.specs.Building.{FormattedFetch}
use Rattle.gsession.specs.Requesting.{blank_request, fetch_request, waiting_for, with_ids}
use Rattle.gsession.specs.Sessions.{SessionState}
use Rattle.gsession.proofs.session.Session.ask_with.Goals as goal

pub objects_request-requires-clause-wants : goal.objects_request-requires-clause-wants
objects_request-requires-clause-wants g c =
    subst (λ (f : Format). All (IsIdOf f) c.as_slice-wants.result.now)
    (sym (ap (λ (r : FormattedFetch). r.format) c.blank_request-blank.ensures))
    (subst (All (IsIdOf c.self.inside.format)) (sym c.as_slice-wants.ensures.value) c.self.invariant.0.wants)

pub objects_request-requires-clause-commons : goal.objects_request-requires-clause-commons
objects_request-requires-clause-commons g c =
    subst (λ (f : Format). All (IsIdOf f) c.as_slice.result.now)
    (sym (ap (λ (r : FormattedFetch). r.format) c.blank_request-blank.ensures))
    (subst (All (IsIdOf c.self.inside.format)) (sym c.as_slice.ensures.value) c.self.invariant.0.commons.ids)

pub objects_request-requires-clause-room : goal.objects_request-requires-clause-room
objects_request-requires-clause-room g c =
    let limits = ap (λ (r : FormattedFetch). r.limits) c.blank_request-blank.ensures
    ∙ ap (λ (s : SessionState g.row.A.Denot). s.options.limits) c.self.view_is in
    rw (c.as_slice.ensures.value, ap (λ (s : SessionState g.row.A.Denot). s.commons) c.self.view_is, limits)
    c.requires.fits.room

pub keep_request-requires-clause-asked : goal.keep_request-requires-clause-asked
keep_request-requires-clause-asked g c =
    let s = c.args.self.now in
    let batch = c.args.batch.now in
    let wants = c.as_slice-wants.ensures.value ∙ ap (λ (s : SessionState g.row.A.Denot). s.wants) c.self.view_is in
    let commons = c.as_slice.ensures.value ∙ ap (λ (s : SessionState g.row.A.Denot). s.commons) c.self.view_is in
    let asked : c.blank_request-blank.result.asked ≡ blank_request s.options =
    ap (λ (r : FormattedFetch). r.asked) c.blank_request-blank.ensures
    ∙ ap (λ (s : SessionState g.row.A.Denot). blank_request s.options) c.self.view_is in
    c.in_ok-request.ensures.asked
    ∙ ap (λ (b : FetchAsked). Fetches (with_ids b c.as_slice-wants.result.now c.as_slice.result.now batch)) asked
    ∙ ap₂ (λ (w m : List Id). Fetches (fetch_request s.options w m batch)) wants commons

pub keep_request-requires-clause-format : goal.keep_request-requires-clause-format
keep_request-requires-clause-format g c =
    rw c.in_ok-request.ensures.format (ap (λ (r : FormattedFetch). r.format) c.blank_request-blank.ensures
    ∙ ap (λ (s : SessionState g.row.A.Denot). s.format) c.self.view_is)

pub returns-clause-made : goal.returns-clause-made
returns-clause-made g c =
    let s = c.args.self.now in
    let batch = c.args.batch.now in
    let same = c.in_ok-copy.ensures.asked in
    let wants = c.as_slice-wants.ensures.value ∙ ap (λ (s : SessionState g.row.A.Denot). s.wants) c.self.view_is in
    let commons = c.as_slice.ensures.value ∙ ap (λ (s : SessionState g.row.A.Denot). s.commons) c.self.view_is in
    let asked : c.blank_request-blank.result.asked ≡ blank_request s.options =
    ap (λ (r : FormattedFetch). r.asked) c.blank_request-blank.ensures
    ∙ ap (λ (s : SessionState g.row.A.Denot). blank_request s.options) c.self.view_is in (
      same ∙ c.in_ok-request.ensures.asked
          ∙ ap (λ (b : FetchAsked). Fetches (with_ids b c.as_slice-wants.result.now c.as_slice.result.now batch)) asked
          ∙ ap₂ (λ (w m : List Id). Fetches (fetch_request s.options w m batch)) wants commons,
      c.in_ok-keep_request.ensures ∙ ap (λ (asked : Asked). waiting_for s asked batch) (sym same),
    )

pub returns-clause-format : goal.returns-clause-format
returns-clause-format g c =
    rw (c.in_ok-copy.ensures.format, c.in_ok-request.ensures.format)
    (ap (λ (r : FormattedFetch). r.format) c.blank_request-blank.ensures
    ∙ ap (λ (s : SessionState g.row.A.Denot). s.format) c.self.view_is)

pub objects_request-requires-clause-batch : goal.objects_request-requires-clause-batch
objects_request-requires-clause-batch g c =
    let format = ap (λ (r : FormattedFetch). r.format) c.blank_request-blank.ensures
    ∙ ap (λ (s : SessionState g.row.A.Denot). s.format) c.self.view_is in
    subst (λ (f : Format). All (IsIdOf f) c.args.batch.now) (sym format) c.requires.fits.ids

pub objects_request-requires-clause-few_wants : goal.objects_request-requires-clause-few_wants
objects_request-requires-clause-few_wants g c =
    rw (c.as_slice-wants.ensures.value, ap (λ (r : FormattedFetch). r.limits) c.blank_request-blank.ensures)
    c.self.invariant.0.few_wants

pub returns-in_err-keep_request-clause-made : goal.returns-in_err-keep_request-clause-made
returns-in_err-keep_request-clause-made g c =
    let p =
    err_from_is_err_and c.from_residual-in_err-keep_request.result c.from_residual-in_err-keep_request.ensures.1 in
    rw p.1 c.in_err-keep_request.ensures

pub returns-in_err-copy-clause-made : goal.returns-in_err-copy-clause-made
returns-in_err-copy-clause-made g c =
    let p = err_from_is_err_and c.from_residual-in_err-copy.result c.from_residual-in_err-copy.ensures.1 in
    rw p.1 refl
