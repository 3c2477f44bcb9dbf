-- The words at the start of texts.
use Rattle.std.proofs.Common.{◌≡◌, ℕ, ◌+◌, ◌-◌, true, false, nat_eq, List, [], ◌∷◌, ◌++◌, length, take, drop, decimal, sym, ap, ◌∙◌, arith, append_assoc, length-append}
use Rattle.std.specs.Cmp.Lexicographic.{pointwise}
use Rattle.std.proofs.Transfers.{drop-appended}
use Rattle.std.proofs.lemmas.Bool.{false≢true}
use Rattle.std.proofs.lemmas.List.{take-append-drop, take-append-le, take_all}
use Rattle.std.proofs.lemmas.Slice.Eq.{bytes_eq-Decides}
use Rattle.gitobject.specs.Naming.{object_text}
use Rattle.gitobject.specs.Types.{type_name}
use Rattle.gitobject.specs.declared.types.ObjectType.{ObjectType}
use Rattle.gitobject.specs.declared.types.ObjectType.TheVariants.{Commit, Tree, Blob, Tag}
use Rattle.std.specs.Prelude.{codes}
use Rattle.gitobjects.specs.Heads.{BeginsAsObject, BeginsWith}

take_front : (a b : List ℕ) → take (length a) (a ++ b) ≡ a
take_front a b = take-append-le (length a) a b (omega arith) ∙ take_all (length a) a (omega arith)

-- a text whose first bytes equal a word begins with the word
pub strips : (word text : List ℕ) → pointwise nat_eq (take (length word) text) word ≡ true → BeginsWith word text
strips word text same =
    let front = (bytes_eq-Decides (take (length word) text) word).0 same in
    (drop (length word) text, sym (take-append-drop (length word) text) ∙ ap (λ l. l ++ drop (length word) text) front)

pub strips_not : (word text : List ℕ) → pointwise nat_eq (take (length word) text) word ≡ false → ¬ (BeginsWith word text)
strips_not word text differ begins =
    false≢true (sym differ ∙ (bytes_eq-Decides (take (length word) text) word).1 (ap (take (length word)) begins.1 ∙ take_front word begins.0))

-- a text does not begin like an object if none of the four type names, followed by a space, is at its start
pub no_object : (text : List ℕ) → ¬ (BeginsWith (codes "commit ") text) → ¬ (BeginsWith (codes "tree ") text) → ¬ (BeginsWith (codes "blob ") text) → ¬ (BeginsWith (codes "tag ") text) → (kind : ObjectType) → ¬ (BeginsAsObject text kind)
no_object text commit tree blob tag Commit = commit
no_object text commit tree blob tag Tree = tree
no_object text commit tree blob tag Blob = blob
no_object text commit tree blob tag Tag = tag

-- the text of an object is its header, followed by the body: after as many bytes as the header has, the body begins
pub body_after : (text : List ℕ) (kind : ObjectType) (body : List ℕ) (count : ℕ) → text ≡ object_text kind body → count ≡ length text - length body → text ≡ object_text kind (drop count text)
body_after text kind body count is left =
    let digits = decimal (length body) in
    let head = type_name kind ++ 32 ∷ (digits ++ 0 ∷ []) in
    let whole : text ≡ head ++ body =
    is ∙ ap (λ l. type_name kind ++ 32 ∷ l) (sym (append_assoc digits (0 ∷ []) body)) ∙ sym (append_assoc (type_name kind) (32 ∷ (digits ++ 0 ∷ [])) body) in
    let long : count ≡ length head = omega (arith, left, ap length whole, length-append head body) in
    let rest : drop count text ≡ body = ap (λ n. drop n text) long ∙ drop-appended head text body whole in
    is ∙ ap (object_text kind) (sym rest)
