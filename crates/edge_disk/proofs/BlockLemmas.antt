-- The blocks of a disk in memory after a write, and as they are made.
use Rattle.std.proofs.Common.{◌≡◌, ◌≢◌, ℕ, ◌<◌, ◌+◌, ◌-◌, List, [], ◌∷◌, ◌++◌, length, map, set, get_or, slice_range, Vec, Fits, w8, sym, ◌∙◌, ap, subst, arith}
use Rattle.std.proofs.lemmas.List.Elements.{All-from_get_or, All-push, All-take, All-drop}
use Rattle.std.proofs.lemmas.List.{map-set, length-map, get_or-set_same, get_or-set_other}
use Rattle.std.specs.List.{All}
use Rattle.std.specs.declared.alloc.Global.{Global}
use Rattle.edge_disk.specs.Slots.{block_in, IsBlock, AllBlocksHave}

pub block_in-set : (image : List (Vec ℕ Global)) (b : ℕ) (v : Vec ℕ Global) → b < length image → block_in (set image b v) b ≡ v.items
block_in-set image b v h =
    let f : Vec ℕ Global → List ℕ = λ w. w.items in
    ap (λ (l : List (List ℕ)). get_or l b []) (map-set f image b v) ∙ get_or-set_same (map f image) b v.items [] (omega (arith, length-map image f))

pub block_in-set_other : (image : List (Vec ℕ Global)) (b k : ℕ) (v : Vec ℕ Global) → k ≢ b → block_in (set image b v) k ≡ block_in image k
block_in-set_other image b k v far =
    let f : Vec ℕ Global → List ℕ = λ w. w.items in
    ap (λ (l : List (List ℕ)). get_or l k []) (map-set f image b v) ∙ get_or-set_other (map f image) b k v.items [] far

pub ruleset blocks_set = (block_in-set, block_in-set_other)

-- a part of an image
part_bytes : (from to : ℕ) (image : List ℕ) → ((i : ℕ) → Fits w8 (get_or image i 0)) → All (λ byte. byte < 256) (slice_range image from to)
part_bytes from to image small =
    let IsByte : ℕ → Type 0 = λ byte. byte < 256 in
    All-take IsByte (to - from) _ (All-drop IsByte from image (All-from_get_or IsByte image 0 (λ i lower. let fits = small i in omega arith)))

pub AllBlocksHave-push : (n from : ℕ) (image : List ℕ) (blocks : List (Vec ℕ Global)) (v : Vec ℕ Global) → ((i : ℕ) → Fits w8 (get_or image i 0)) → length v.items ≡ n
    → v.items ≡ slice_range image from (from + n) → AllBlocksHave n blocks → AllBlocksHave n (blocks ++ v ∷ [])
AllBlocksHave-push n from image blocks v small long is whole =
    All-push (λ (w : Vec ℕ Global). IsBlock n w.items) blocks v whole (long, subst (All (λ byte. byte < 256)) (sym is) (part_bytes from (from + n) image small))
