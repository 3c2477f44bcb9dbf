use Rattle.std.proofs.Common.{◌∙◌, inl, inr, sym}
use Rattle.gserver.proofs.lent_side.LentSideSideRequestReaderServerReplyLentUsize.refuse.Goals as goal

pub returns-then-is_first_end : goal.returns-then-is_first_end
returns-then-is_first_end g c = λ said goes may.
    let h = c.close.ensures.closes in
    let first = c.is_first_end.ensures.0 c.if-is_first_end.true in record {
      keeps = h.keeps;
      earlier = h.earlier;
      count = h.requests;
      packer = h.packer;
      how = inl (record { first = first.0; ended = first.1; all = c.close.ensures.said said goes may; closing = h.closing });
    }

pub returns-else-is_first_end : goal.returns-else-is_first_end
returns-else-is_first_end g c = λ said goes may.
    let h = c.decline.ensures.closes in record {
      keeps = h.keeps;
      earlier = h.earlier;
      count = h.requests;
      packer = h.packer;
      how = inr (record {
        begun = λ ended first. absurd (cc (sym (c.is_first_end.ensures.1 (first, ended)) ∙ c.if-is_first_end.false));
        all = c.decline.ensures.said said goes may;
        closing = h.closing;
      });
    }
