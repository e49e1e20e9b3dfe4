-- The free blocks and those that positions occupy are all allocable blocks.
use Rattle.std.proofs.Common.{◌≡◌, ℕ, ◌+◌, ◌&&◌, not, Bool, true, false, List, refl, ap, ◌∙◌}
use Rattle.std.specs.List.{count_by, range_with_len}
use Rattle.edge_base.specs.declared.geometry.Request.{Request}
use Rattle.edge_base.specs.layout.Places.{first_allocable_of, allocable_of}
use Rattle.edge_base.specs.tree.Positions.{Position, count_of}
use Rattle.edge_base.proofs.CountLaws.{count_by-LeadTo-rest, count_by-LeadTo-neither}
use Rattle.edge_store.specs.View.{View, is_used, is_new, free_now, free_after}
use Rattle.edge_store.specs.Counted.{Occupy}

-- neither committed nor new is not used at all
neither : (committed working : Bool) → (not committed && not working) ≡ (not committed && not (working && not committed))
neither true working = refl
neither false true = refl
neither false false = refl

apart : (committed working : Bool) → committed ≡ true → (working && not committed) ≡ false
apart true true e = refl
apart true false e = refl
apart false working e = absurd (cc)

pub free_now-positions : (g : Request) (committed working : View) (ps dirty : List Position) → Occupy g committed ps (is_used committed) → Occupy g working dirty (is_new committed working)
    → free_now g committed working + count_of ps + count_of dirty ≡ allocable_of g
unfolding free_now
free_now-positions g committed working ps dirty first second =
    ap (λ (n : ℕ). n + count_of ps + count_of dirty) (λ i. count_by (λ b. neither (is_used committed b) (is_used working b) i) (range_with_len (first_allocable_of g) (allocable_of g)))
    ∙ count_by-LeadTo-neither first second (λ b. apart (is_used committed b) (is_used working b))

pub free_after-positions : (g : Request) (working : View) (ps : List Position) → Occupy g working ps (is_used working) → free_after g working + count_of ps ≡ allocable_of g
unfolding free_after
free_after-positions g working ps all = count_by-LeadTo-rest all
