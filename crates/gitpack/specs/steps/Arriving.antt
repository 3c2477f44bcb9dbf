-- The state of a pack that arrives: its received bytes, its header and its hash.
use Rattle.std.specs.Prelude.{◌≡◌, ⊤, ℕ, ◌-◌, ◌≤◌, List, [], ◌++◌, length, take}
use Rattle.sha1.specs.Sha1.{Holds}
use Rattle.sha1.specs.declared.Sha1.{Sha1}
use Rattle.gitpack.specs.Packs.{pack_header}
use Rattle.gitpack.specs.declared.frame.PackHead.{PackHead}
use Rattle.gitpack.specs.declared.frame.PackHead.TheVariants.{Unread, Count, Wrong}

-- the bytes begin with a pack header that contains this entry count
abbrev pub BeginsWithCount : ℕ → List ℕ → Type 0
BeginsWithCount count bytes = (rest : List ℕ) × (bytes ≡ pack_header count ++ rest)

-- if the header state contains an entry count, the bytes begin with a pack header that contains this count
abbrev pub IsHeadOf : PackHead → List ℕ → Type 0
IsHeadOf Unread bytes = ⊤
IsHeadOf (Count count) bytes = BeginsWithCount count bytes
IsHeadOf Wrong bytes = ⊤

-- The new state of the header. A complete header does not change, and an unread header is read from these bytes.
abbrev pub HeadAfter : PackHead → List ℕ → PackHead → Type 0
HeadAfter Unread bytes head = IsHeadOf head bytes
HeadAfter (Count count) bytes head = head ≡ Count count
HeadAfter Wrong bytes head = head ≡ Wrong

-- If the header is read, the released bytes and the bytes after them begin with this header. An unread header is not
-- released.
abbrev pub KeepsHead : PackHead → List ℕ → List ℕ → Type 0
KeepsHead Unread released body = released ≡ []
KeepsHead (Count count) released body = BeginsWithCount count (released ++ body)
KeepsHead Wrong released body = ⊤

-- this number of bytes may be released from the front of the window
abbrev pub MayRelease : PackHead → ℕ → List ℕ → Type 0
MayRelease Unread count window = count ≡ 0
MayRelease (Count entries) count window = count ≤ length window - 20
MayRelease Wrong count window = count ≤ length window - 20

-- The received bytes are the released bytes and the window, which begins at the offset `first`.
-- All bytes except the last twenty are hashed.
pub record IsArriving (given : List ℕ) (first : ℕ) (window : List ℕ) (head : PackHead) (hasher : Sha1) : Type 0 where
  pub released : List ℕ
  pub parts : given ≡ released ++ window
  pub begins : first ≡ length released
  pub hashed : Holds hasher (released ++ take (length window - 20) window)
  pub headed : KeepsHead head released (take (length window - 20) window)
