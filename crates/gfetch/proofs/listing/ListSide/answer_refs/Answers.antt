use Rattle.std.proofs.Common.{◌∙◌, refl, sym, ap, subst}
use Rattle.gname.specs.declared.formats.Format.{Format}
use Rattle.ggrammar.specs.Grammar.{IsWhole}
use Rattle.ggrammar.specs.declared.ends.Ends.TheVariants.{Plain}
use Rattle.glsreply.specs.LsReplies as ls
use Rattle.grequest.specs.Asked.{Empty}
use Rattle.grequest.specs.RequestWriting.{canonical_request}
use Rattle.gfetch.proofs.ListingLemmas.{reads_same}
use Rattle.gfetch.proofs.listing.ListSide.answer_refs.Goals as goal

pub returns-in-Some-clause-answers : goal.returns-in-Some-clause-answers
returns-in-Some-clause-answers g c = λ format lines said goes waits held whole may.
    let same = reads_same c.args.self.now.stage c.in-Reads.format format c.in-Reads.is waits in
    let says = c.in-Some.ensures.read Plain lines (subst (λ (f : Format). IsWhole (ls.judge f Plain) lines) (sym same) whole) held in
    record {
      reply = c.in-Some.reply;
      says = subst (λ (f : Format). ls.Says f Plain lines c.in-Some.reply) same says;
      listed = refl;
      all = may.1.1.0 ∙ c.request.ensures ∙ ap (λ (f : Format). canonical_request f Empty) same;
      ended = may.0;
    }

pub returns-in-None-clause-answers : goal.returns-in-None-clause-answers
returns-in-None-clause-answers g c = λ format lines said goes waits held whole may.
    let same = reads_same c.args.self.now.stage c.in-Reads.format format c.in-Reads.is waits in
    absurd (c.in-None.ensures.read Plain lines (subst (λ (f : Format). IsWhole (ls.judge f Plain) lines) (sym same) whole) held)
