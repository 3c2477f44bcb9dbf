-- Parts of blocks, and the blocks in memory.
use Rattle.std.proofs.Common.{◌≡◌, ℕ, ◌+◌, ◌<◌, ◌≤◌, List, [], ◌∷◌, ◌++◌, Option, None, Some, length, map, take, drop, set, get_or, ap, sym, ◌∙◌, subst, arith}
use Rattle.std.proofs.lemmas.List.{drop-append-le, drop-drop, get_or-map, length-append, length-drop, map-set, set-get_or, take-append-drop, take-append-le}
use Rattle.std.proofs.lemmas.List.Elements.{All-push}
use Rattle.gitobjects.specs.Windows.{AreBlocks, IsBlock, IsPart}
use Rattle.gitobjects.specs.declared.window.Block.{Block}

-- a part of a part of a file is a part of the file
pub IsPart-inner : (known : Option (List ℕ)) (first offset count start : ℕ) (block bytes : List ℕ) → first + offset ≡ start → IsPart known first block → offset + count ≤ length block → bytes ≡ take count (drop offset block) → length bytes ≡ count → IsPart known start bytes
IsPart-inner None first offset count start block bytes sum is fits cut long = tt
IsPart-inner (Some all) first offset count start block bytes sum is fits cut long =
    let R = drop (length block) (drop first all) in
    let whole : drop first all ≡ block ++ R =
    sym (take-append-drop (length block) (drop first all)) ∙ ap (λ l. l ++ R) (sym is) in
    let inside : offset ≤ length block = omega (arith, fits) in
    let enough : count ≤ length (drop offset block) = omega (arith, fits, length-drop offset block) in
    let back : drop start all ≡ drop offset block ++ R =
    ap (λ n. drop n all) (sym sum) ∙ sym (drop-drop offset first all) ∙ ap (drop offset) whole ∙ drop-append-le offset block R inside in
    cut ∙ sym (take-append-le count (drop offset block) R enough) ∙ ap (take count) (sym back) ∙ ap (λ n. take n (drop start all)) (sym long)

-- replacing an element with another element that has the same image under `f` does not change the list of images
pub map-set_same : {X Y : Type 0} (f : X → Y) (xs : List X) (i : ℕ) (x y : X) → f y ≡ f (get_or xs i x) → i < length xs → map f (set xs i y) ≡ map f xs
map-set_same f xs i x y same inside =
    map-set f xs i y ∙ ap (set (map f xs) i) (same ∙ sym (get_or-map f xs i x (f x) inside)) ∙ set-get_or (map f xs) i (f x)

-- one more block can be added to the blocks in memory if they are fewer than 64
pub AreBlocks-push : {A : Type 0} (packs : List (Option (List ℕ))) (blocks : List (Block A)) (block : Block A) → AreBlocks packs blocks → length blocks < 64 → IsBlock packs block → AreBlocks packs (blocks ++ block ∷ [])
AreBlocks-push packs blocks block are room is = record {
  few = rw length-append (omega arith);
  each = All-push (IsBlock packs) blocks block are.each is;
}
