-- The positions of a chain, counted one by one and as a set.
use Rattle.std.proofs.Common.{◌≡◌, ℕ, suc, ◌+◌, ◌-◌, ◌/◌, ◌<◌, ◌==◌, ◌&&◌, ◌||◌, not, Bool, true, false, cond, ltb, List, [], ◌∷◌, length, refl, sym, ◌∙◌, arith}
use Rattle.std.specs.List.{filter, count_by}
use Rattle.std.specs.Set.{unique_keys}
use Rattle.std.proofs.lemmas.List.Sums.{sum_by-cons}
use Rattle.edge_base.specs.declared.geometry.Request.{Request}
use Rattle.edge_base.specs.layout.Places.{pointers_of, max_blocks_of}
use Rattle.edge_base.specs.tree.Positions.{Position, same_position, data_at, indirect_at, double_at, chain, has, count_of}
use Rattle.edge_base.proofs.PositionLaws.{has-filter}
use Rattle.edge_store.specs.View.{View}
use Rattle.edge_store.specs.Fresh.{is_dirty, fresh_count}
use Rattle.edge_moves.specs.Writable.{fresh_on_chain}
use Rattle.edge_count.proofs.WriteLaws.{fresh_chain}
use Rattle.edge_count.proofs.TouchLaws.{above_plain}

-- no position is listed twice
abbrev pub Once : List Position → Type 0
Once [] = Unit {0}
Once (p ∷ ps) = (has ps p ≡ false) × Once ps

pub count_once : (test : Position → Bool) (ps : List Position) → Once ps → count_by test ps ≡ count_of (filter test ps)
count_once test [] once = refl
count_once test (p ∷ ps) once = sum_by-cons (λ q. cond (test q) 1 0) p ps ∙ by (test p) (count_once test ps once.1)
  where
    new : has (filter test ps) p ≡ false
    new = has-filter test ps p ∙ (λ t. once.0 t && test p)

    by : (t : Bool) → count_by test ps ≡ count_of (filter test ps)
        → ◌≡◌ {A = ℕ} (cond t 1 0 + count_by test ps) (count_of (cond t (p ∷ filter test ps) (filter test ps)))
    by true rest = let more : count_of (p ∷ filter test ps) ≡ suc (count_of (filter test ps)) = λ t. length (cond (new t) (unique_keys same_position (filter test ps)) (p ∷ unique_keys same_position (filter test ps))) in omega (arith, rest, more)
    by false rest = omega (arith, rest)

pub chain_once : (g : Request) (n i : ℕ) → Once (chain g n i)
chain_once g n i = (above_plain g n i i, by (ltb i g.direct) (ltb ((i - g.direct) / pointers_of g) g.indirect))
  where
    off : (s t : Bool) → (((s && false) && t) || false) ≡ false
    off true t = refl
    off false t = refl

    by : (s t : Bool)
        → Once (cond s [] (indirect_at n ((i - g.direct) / pointers_of g) ∷ cond t [] (double_at n (((i - g.direct) / pointers_of g - g.indirect) / pointers_of g) ∷ [])))
    by true t = tt
    by false true = (refl, tt)
    by false false = (off (n == n) ((i - g.direct) / pointers_of g == ((i - g.direct) / pointers_of g - g.indirect) / pointers_of g), (refl, tt))

module _ (g : Request) (c v : View) (n i : ℕ) where
  pub chain_count : fresh_on_chain g c v n i ≡ count_of (filter (λ p. not (is_dirty g c v p)) (chain g n i))
  chain_count = count_once (λ p. not (is_dirty g c v p)) (chain g n i) (chain_once g n i)

  pub fresh_on_chain-count : i < max_blocks_of g → fresh_count g c v (data_at n i ∷ []) [] ≡ fresh_on_chain g c v n i
  fresh_on_chain-count low = fresh_chain g c v n i low ∙ sym chain_count
