-- The HEAD of a clone, derived from the server's reply to ls-refs.
use Rattle.std.specs.Prelude.{◌≡◌, ◌≢◌, ◌⊎◌, Bool, true, false, nat_eq, List, [], ◌∷◌, codes, Option, None, Some}
use Rattle.std.specs.List.{starts_with}
use Rattle.gname.specs.Names.{Name, head_name}
use Rattle.glsreply.specs.RefTexts.{RefLine}
use Rattle.gitprogram.specs.declared.cloning.ServerHead.{ServerHead}
use Rattle.gitprogram.specs.declared.cloning.ServerHead.TheVariants.{Branch, Detached}

-- the branch for the HEAD of a clone if the server's reply does not show the server's HEAD
abbrev pub default_branch : Name
default_branch = codes "refs/heads/main"

-- whether a name is a branch name
abbrev pub is_branch : Name → Bool
is_branch name = starts_with nat_eq name (codes "refs/heads/")

-- the HEAD of a clone if the server's HEAD is unborn: the unborn branch, or the default branch if the name is not a
-- branch name
abbrev pub IsUnbornHead : Name → ServerHead → Type 0
IsUnbornHead name head =
    ((is_branch name ≡ true) × (head ≡ Branch name))
    ⊎ ((is_branch name ≡ false) × (head ≡ Branch default_branch))

-- the HEAD of a clone, given the symref target of the server's HEAD: it points at the target if the target is a branch,
-- and is detached otherwise
abbrev pub IsSymrefOf : Option Name → ServerHead → Type 0
IsSymrefOf (Some target) head =
    ((is_branch target ≡ true) × (head ≡ Branch target))
    ⊎ ((is_branch target ≡ false) × (head ≡ Detached))
IsSymrefOf None head = head ≡ Detached

-- the HEAD of a clone, given the lines of a reply: if HEAD is not in the first line, the HEAD of the clone points at
-- the default branch
abbrev pub IsListedHead : List RefLine → ServerHead → Type 0
IsListedHead [] head = head ≡ Branch default_branch
IsListedHead (line ∷ lines) head =
    ((line.name ≡ head_name) × IsSymrefOf line.symref head)
    ⊎ ((line.name ≢ head_name) × (head ≡ Branch default_branch))

-- the HEAD of a clone, given the unborn HEAD in a reply, if any, and the lines of the reply
abbrev pub IsHead : Option Name → List RefLine → ServerHead → Type 0
IsHead (Some target) lines head = IsUnbornHead target head
IsHead None lines head = IsListedHead lines head
