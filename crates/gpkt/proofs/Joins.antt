-- Consecutive reads of packets, and consecutive writes of bytes.
use Rattle.std.proofs.Common.{ℕ, Bool, List, [], ◌∷◌, ◌++◌, Option, Some, None, Ok, Err, refl, sym, ap, ◌∙◌, append_assoc, append-nil}
use Rattle.std.proofs.KnownBytes.{Appends-trans, Appends-kept, Keeps-trans}
use Rattle.std.proofs.lemmas.Bool.{false≢true}
use Rattle.std.specs.Io.KnownBytes.{Keeps}
use Rattle.std.specs.Prelude.{IsSome}
use Rattle.gpkt.specs.Laws.{WritesJoin, FailsOfMore, PushesWritten, ReadsNone, ReadsNext, ReadsJoin}
use Rattle.gpkt.specs.declared.fault.WriteFault.TheVariants.{Failed, Payload, Io}
use Rattle.gpkt.proofs.Pieces.{AppendsFront-more, AppendsFront-after}
use Rattle.gpkt.proofs.Readings.{spellings_join_lem}

pub reads_none : ReadsNone
reads_none None = tt
reads_none (Some bytes) = ([], refl, refl)

pub reads_join : ReadsJoin
reads_join None mid new lines more p q = tt
reads_join (Some old) None new lines more p q = absurd p
reads_join (Some old) (Some mid) None lines more p q = absurd q
reads_join (Some old) (Some mid) (Some new) lines more (front, split, first) (next, parted, others) = (
  front ++ next,
  split ∙ ap (λ l. front ++ l) parted ∙ sym (append_assoc front next new),
  spellings_join_lem lines more front next first others,
)

pub reads_next : ReadsNext
reads_next None mid new lines line p q = tt
reads_next (Some old) None new lines line p q = absurd p
reads_next (Some old) (Some mid) None lines line p q = absurd q
reads_next (Some old) (Some mid) (Some new) lines line p (front, parted, spelt) =
    reads_join (Some old) (Some mid) (Some new) lines (line ∷ []) p (front, parted, (front, [], sym (append-nil front), spelt, refl))

-- if bytes are known and a call does not change them, they are known after the call
pub IsSome-kept : (a b : Option (List ℕ)) → Keeps a b → IsSome a → IsSome b
IsSome-kept None b kept known = absurd (false≢true known)
IsSome-kept (Some x) None kept known = absurd kept
IsSome-kept (Some x) (Some y) kept known = refl

module _ {W : Type 0} (contents passed_on : W → Option (List ℕ)) (is_down : W → Bool) (loans : W → List ℕ) where
  pub writes_join : WritesJoin contents passed_on is_down loans
  writes_join old mid new bytes more (Ok done) first second fits = record {
    outcome = ((first.outcome.0.0, second.outcome.0.1, second.outcome.0.2), Appends-trans _ _ _ bytes more first.outcome.1 second.outcome.1);
    passed_on = Keeps-trans _ _ _ first.passed_on second.passed_on;
    loans = second.loans ∙ first.loans;
  }
  writes_join old mid new bytes more (Err Io) first second fits = record {
    outcome = (
      (first.outcome.0.0, second.outcome.0.1, second.outcome.0.2),
      AppendsFront-after _ _ _ bytes more first.outcome.1 second.outcome.1,
    );
    passed_on = Keeps-trans _ _ _ first.passed_on second.passed_on;
    loans = second.loans ∙ first.loans;
  }
  writes_join old mid new bytes more (Err Payload) first second fits = absurd (fits refl)
  writes_join old mid new bytes more (Err Failed) first second fits = absurd (false≢true (sym first.outcome.0.1 ∙ second.outcome.0))

  pub fails_of_more : FailsOfMore contents passed_on is_down loans
  fails_of_more old new bytes more Io h fits = record {
    outcome = (h.outcome.0, AppendsFront-more _ _ bytes more h.outcome.1);
    passed_on = h.passed_on;
    loans = h.loans;
  }
  fails_of_more old new bytes more Payload h fits = absurd (fits refl)
  fails_of_more old new bytes more Failed h fits = record { outcome = h.outcome; passed_on = h.passed_on; loans = h.loans }

  pub pushes_written : PushesWritten contents passed_on is_down loans
  pushes_written old mid new bytes (Ok done) wrote pushed =
      (Appends-kept _ _ _ bytes wrote.outcome.1 pushed.written, λ known. pushed.outcome.1 (IsSome-kept _ _ wrote.passed_on known))
  pushes_written old mid new bytes (Err fault) wrote pushed = (Appends-kept _ _ _ bytes wrote.outcome.1 pushed.written, tt)
