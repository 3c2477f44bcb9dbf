-- What is kept of a pack that arrives, as bytes are added and released.
use Rattle.std.proofs.Common.{◌≡◌, ℕ, ◌+◌, ◌-◌, ◌≤◌, List, ◌++◌, length, take, drop, sym, ap, subst, ◌∙◌, append_assoc, arith}
use Rattle.std.proofs.Math.Seq.{drop-append_seam, take-add}
use Rattle.std.proofs.lemmas.List.{append-nil, length-append, length-drop, length-take-le, take-append-drop}
use Rattle.sha1.specs.Sha1.{Holds, sha1}
use Rattle.sha1.specs.declared.Sha1.{Sha1}
use Rattle.gitpack.proofs.IndexLemmas.{hashed_more}
use Rattle.gitpack.specs.Packs.{IsFramed, IsPart, pack_header}
use Rattle.gitpack.specs.declared.frame.PackHead.{PackHead}
use Rattle.gitpack.specs.declared.frame.PackHead.TheVariants.{Unread, Count, Wrong}
use Rattle.gitpack.specs.steps.Arriving.{BeginsWithCount, HeadAfter, IsArriving, KeepsHead, MayRelease}

-- bytes that begin with a header still begin with the header after more bytes are appended
begins_more : (count : ℕ) (bytes more all : List ℕ) → all ≡ bytes ++ more → BeginsWithCount count bytes → BeginsWithCount count all
begins_more count bytes more all is begins =
    (begins.0 ++ more, is ∙ ap (λ l. l ++ more) begins.1 ∙ append_assoc (pack_header count) begins.0 more)

-- what is known about the header, after more bytes of the pack are read
headed_more : (head head' : PackHead) (released front more body : List ℕ) → body ≡ front ++ more → HeadAfter head body head' → KeepsHead head released front → KeepsHead head' released body
headed_more Unread Unread released front more body is after none = none
headed_more Unread (Count count) released front more body is after none =
    subst (BeginsWithCount count) (sym (ap (λ l. l ++ body) none)) after
headed_more Unread Wrong released front more body is after none = tt
headed_more (Count count) head' released front more body is after begins =
    subst (λ h. KeepsHead h released body) (sym after)
    (begins_more count (released ++ front) more (released ++ body) (ap (λ l. released ++ l) is ∙ sym (append_assoc released front more)) begins)
headed_more Wrong head' released front more body is after wrong = subst (λ h. KeepsHead h released body) (sym after) tt

-- a piece arrives, and the bytes before the last twenty are hashed
pub arrives_more : (given given' window window' piece : List ℕ) (first : ℕ) (head head' : PackHead) (hasher hasher' : Sha1) (from to : ℕ) → given' ≡ given ++ piece → window' ≡ window ++ piece
    → from ≡ length window - 20 → to ≡ length window' - 20 → ((m : List ℕ) → Holds hasher m → Holds hasher' (m ++ take (to - from) (drop from window')))
    → HeadAfter head (take to window') head' → IsArriving given first window head hasher → IsArriving given' first window' head' hasher'
arrives_more given given' window window' piece first head head' hasher hasher' from to all grown is end hashes after was =
    let released = was.released in
    let front = take (length window - 20) window in
    let more = take (to - from) (drop from window') in
    let body : take (length window' - 20) window' ≡ front ++ more =
    ap (λ n. take n window') (sym end) ∙ sym (hashed_more window piece window' from to grown is end) ∙ ap (λ n. take n window ++ more) is in
    let read : HeadAfter head (take (length window' - 20) window') head' = subst (λ n. HeadAfter head (take n window') head') end after in
    record {
      released = released;
      begins = was.begins;
      parts = all ∙ ap (λ l. l ++ piece) was.parts ∙ append_assoc released window piece ∙ ap (λ l. released ++ l) (sym grown);
      hashed = subst (Holds hasher') (append_assoc released front more ∙ ap (λ l. released ++ l) (sym body)) (hashes (released ++ front) was.hashed);
      headed = headed_more head head' released front more (take (length window' - 20) window') body read was.headed;
    }

-- what is known about the header, after the first bytes of the window are released
headed_released : (head : PackHead) (most count : ℕ) (released window body body' : List ℕ) → released ++ body ≡ (released ++ take count window) ++ body' → count ≤ most → MayRelease head most window
    → KeepsHead head released body → KeepsHead head (released ++ take count window) body'
headed_released Unread most count released window body body' is few may none =
    let zero_count : count ≡ 0 = omega (arith, few, may) in
    ap (λ n. released ++ take n window) zero_count ∙ append-nil released ∙ none
headed_released (Count n) most count released window body body' is few may begins = subst (BeginsWithCount n) is begins
headed_released Wrong most count released window body body' is few may wrong = tt

-- the limit of what may be released is within the bytes before the last twenty
may_release-le : (head : PackHead) (most : ℕ) (window : List ℕ) → MayRelease head most window → most ≤ length window - 20
may_release-le Unread most window may = omega (arith, may)
may_release-le (Count n) most window may = may
may_release-le Wrong most window may = may

-- the first bytes of the window are released
pub arrives_released : (given window window' : List ℕ) (first first' : ℕ) (head : PackHead) (hasher : Sha1) (count : ℕ) → window' ≡ drop count window → first' ≡ first + count
    → MayRelease head count window → IsArriving given first window head hasher → IsArriving given first' window' head hasher
arrives_released given window window' first first' head hasher count cut after may was =
    let released = was.released in
    let front = take count window in
    let few : count ≤ length window - 20 = may_release-le head count window may in
    let left : length window' ≡ length window - count = ap length cut ∙ length-drop count window in
    let sum : count + (length window' - 20) ≡ length window - 20 = omega (arith, few, left) in
    let body : take (length window - 20) window ≡ front ++ take (length window' - 20) window' =
    ap (λ n. take n window) (sym sum) ∙ take-add count (length window' - 20) window ∙ ap (λ l. front ++ take (length window' - 20) l) (sym cut) in
    let same : released ++ take (length window - 20) window ≡ (released ++ front) ++ take (length window' - 20) window' =
    ap (λ l. released ++ l) body ∙ sym (append_assoc released front (take (length window' - 20) window')) in
    let size : length front ≡ count = length-take-le count window (omega (arith, few)) in
    let sum_of : length (released ++ front) ≡ length released + length front = length-append released front in
    let start = was.begins in
    record {
      released = released ++ front;
      begins = omega (arith, after, start, size, sum_of);
      parts = was.parts ∙ ap (λ l. released ++ l) (sym (take-append-drop count window) ∙ ap (λ l. front ++ l) (sym cut)) ∙ sym (append_assoc released front window');
      hashed = subst (Holds hasher) same was.hashed;
      headed = headed_released head count count released window (take (length window - 20) window) (take (length window' - 20) window') same (omega arith) may was.headed;
    }

-- the bytes before the last twenty of the window are a part of the received bytes
pub part_of_window : (given window body : List ℕ) (first : ℕ) (head : PackHead) (hasher : Sha1) → IsArriving given first window head hasher → body ≡ take (length window - 20) window
    → IsPart given first body
part_of_window given window body first head hasher was is =
    let rest : drop first given ≡ window = ap (λ n. drop n given) was.begins ∙ ap (drop (length was.released)) was.parts ∙ drop-append_seam was.released window in
    let size : length body ≡ length window - 20 = ap length is ∙ length-take-le (length window - 20) window (omega arith) in
    is ∙ ap (λ n. take n window) (sym size) ∙ ap (take (length body)) (sym rest)

-- a pack whose last twenty bytes are the hash of the bytes before them
pub complete_pack_is_framed : (given window : List ℕ) (first count : ℕ) (hasher : Sha1) (sum id : List ℕ) → IsArriving given first window (Count count) hasher → ((m : List ℕ) → Holds hasher m → sum ≡ sha1 m) → id ≡ sum
    → window ≡ take (length window - 20) window ++ sum → IsFramed count id given
complete_pack_is_framed given window first count hasher sum id was digest same ends =
    let body = was.released ++ take (length window - 20) window in
    let hash : sum ≡ sha1 body = digest body was.hashed in
    record {
      entries = was.headed.0;
      parts = was.parts ∙ ap (λ l. was.released ++ l) ends ∙ sym (append_assoc was.released (take (length window - 20) window) sum) ∙ ap (λ l. l ++ sum) was.headed.1
          ∙ ap (λ l. (pack_header count ++ was.headed.0) ++ l) (sym same);
      trails = same ∙ hash ∙ ap sha1 was.headed.1;
    }
