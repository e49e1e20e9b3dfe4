-- How parts of a command come to states over points, one after the other.
use Rattle.std.proofs.Common.{◌≡◌, ◌∙◌, ℕ, suc, ◌+◌, ◌-◌, ◌++◌, Bool, true, false, List, [], ◌∷◌, length, refl, sym, ap, subst, arith, Option, Some, None}
use Rattle.std.specs.Prelude.{is_some}
use Rattle.std.proofs.lemmas.List.{get_or_append_left, length-append}
use Rattle.edge_store.specs.declared.fault.StoreFault.{StoreFault}
use Rattle.edge_store.specs.declared.store.Store.{Ghosts as StoreGhosts}
use Rattle.edge_store.specs.Calls.{KeepsPoint}
use Rattle.edge_store.specs.State.{StoreState}
use Rattle.edge_model.specs.Asking.{IsAt, tree_at}
use Rattle.edge_model.specs.Laws.{last_or}
use Rattle.edge_model.specs.State.{State}
use Rattle.edge_model.specs.Tree.{Tree}
use Rattle.edge_volume.specs.Volume.{StoreStands}
use Rattle.edge_volume.specs.Parts.{EndsBy, Looks, IsOfNoDamage, IsAmong, Comes}
use Rattle.edge_volume.proofs.LookLaws.{looks_stands}

-- ---- where a store is among trees

module _ (committed under_way : Tree → Type 0) (torn : Bool) where
  -- more trees come after
  pub at_before : (trees more : List Tree) (j : ℕ) → IsAt committed under_way torn trees j → IsAt committed under_way torn (trees ++ more) j
  at_before trees more j at =
      let len = length-append trees more in
      let there = at.there in
      record {
        there = omega arith;
        committed = subst committed (sym (get_or_append_left trees more _ j there)) at.committed;
        next = λ e.
            let n = at.next e in
            let first = n.0 in
            (omega arith, subst under_way (sym (get_or_append_left trees more _ (j + 1) first)) n.1);
      }

  -- the trees behind the last of some
  at_last : (x : Tree) (rest more : List Tree) (j k : ℕ) → k ≡ length rest + j → tree_at ((x ∷ rest) ++ more) k ≡ tree_at (last_or x rest ∷ more) j
  at_last x [] more j k is = ap (tree_at (x ∷ more)) (let same : k ≡ j = omega arith in same)
  at_last x (y ∷ rest) more j k is =
      ap (tree_at (x ∷ y ∷ (rest ++ more))) (let next : k ≡ suc (length rest + j) = omega arith in next) ∙ at_last y rest more j (length rest + j) refl

  -- other trees came before
  pub at_later : (t : Tree) (rest more : List Tree) (c : Tree) → last_or t rest ≡ c → (j k : ℕ) → k ≡ length rest + j → IsAt committed under_way torn (c ∷ more) j
      → IsAt committed under_way torn ((t ∷ rest) ++ more) k
  at_later t rest more c last j k is at = record {
    there = let h = at.there in omega (arith, length-append rest more);
    committed = subst committed (sym (at_last t rest more j k is ∙ ap (λ x. tree_at (x ∷ more) j) last)) at.committed;
    next = λ e.
        let n = at.next e in
        let inside = n.0 in
        let on : k + 1 ≡ length rest + (j + 1) = omega arith in
        (omega (arith, length-append rest more), subst under_way (sym (at_last t rest more (j + 1) (k + 1) on ∙ ap (λ x. tree_at (x ∷ more) (j + 1)) last)) n.1);
  }

-- ---- a part

none_is_no_some : {A : Type 0} (o : Option A) → o ≡ None → is_some o ≡ true → ⊥
none_is_no_some None e h = let f : false ≡ true = h in absurd (cc)
none_is_no_some (Some x) e h = absurd (cc)

-- a store that stands for a state is at its last point
stands_among : (st : StoreState) (s : State) (more : List Tree) (j : ℕ) → j ≡ 0 → StoreStands st s → IsAmong st (s.committed ∷ more) j
stands_among st s more j first stands = rw first (record {
  there = omega arith;
  committed = stands.views.last;
  next = λ e. absurd (none_is_no_some st.under_way stands.whole e);
})

-- nothing happens
pub comes_none : (st : StoreState) (s : State) → StoreStands st s → Comes None st st s s []
comes_none st s stands = record {
  undamaged = λ d e. absurd (cc);
  to_state = λ e. stands;
  by_points = λ e. omega arith;
  never_falls = omega arith;
  trees = stands_among st s [] (st.points - st.points) (omega arith) stands;
}

-- a part that ended stops the whole, whatever was to come
pub comes_stopped : (fault : StoreFault) (a b : StoreState) (s m r : State) (ps qs : List Tree) → Comes (Some fault) a b s m ps → Comes (Some fault) a b s r (ps ++ qs)
comes_stopped fault a b s m r ps qs c = record {
  undamaged = c.undamaged;
  to_state = λ e. absurd (cc);
  by_points = λ e. absurd (cc);
  never_falls = c.never_falls;
  trees = at_before _ _ _ (s.committed ∷ ps) qs _ c.trees;
}

-- a part that came on before
pub comes_on : (fault : Option StoreFault) (a b c : StoreState) (s m r : State) (ps qs : List Tree) → Comes None a b s m ps → last_or s.committed ps ≡ m.committed
    → Comes fault b c m r qs → Comes fault a c s r (ps ++ qs)
comes_on fault a b c s m r ps qs one last two =
    let n = one.by_points refl in let low = one.never_falls in let later = two.never_falls in
    record {
      undamaged = two.undamaged;
      to_state = two.to_state;
      by_points = λ e. let k = two.by_points e in omega (arith, length-append ps qs);
      never_falls = omega arith;
      trees = at_later _ _ _ s.committed ps qs m.committed last (c.points - b.points) (c.points - a.points) (omega arith) two.trees;
    }

-- a part that takes no point and came to a state with the same last point
pub comes_to : (a b : StoreState) (s r : State) → b.points ≡ a.points → r.committed ≡ s.committed → StoreStands b r → Comes None a b s r []
comes_to a b s r points last stands = record {
  undamaged = λ d e. absurd (cc);
  to_state = λ e. stands;
  by_points = λ e. omega (arith, points);
  never_falls = omega (arith, points);
  trees = subst (λ (t : Tree). IsAmong b (t ∷ []) (b.points - a.points)) last (stands_among b r [] (b.points - a.points) (omega (arith, points)) stands);
}

-- a part that takes no point and was ended
pub comes_ended : (fault : StoreFault) (a b : StoreState) (s r : State) (qs : List Tree) → IsOfNoDamage (Some fault) → EndsBy (Some fault) a b → KeepsPoint a b
    → StoreStands a s → Comes (Some fault) a b s r qs
comes_ended fault a b s r qs undamaged ends point stands = record {
  undamaged = undamaged;
  to_state = λ e. absurd (cc);
  by_points = λ e. absurd (cc);
  never_falls = let same = point.points in omega arith;
  trees =
      let same = point.points in
      let first : b.points - a.points ≡ 0 = omega arith in
      let start = stands_among a s qs (b.points - a.points) first stands in
      record {
        there = start.there;
        committed = rw (ends.origin, point.committed) start.committed;
        next = λ e. absurd (none_is_no_some b.under_way (point.under_way ∙ stands.whole) e);
      };
}

-- a part that only reads
pub comes_looking : {A : Type 0} (S : StoreGhosts A) (fault : Option StoreFault) (a b : A) (s : State) → Looks S fault a b → IsOfNoDamage fault
    → StoreStands (S.state a) s → Comes fault (S.state a) (S.state b) s s []
comes_looking S None a b s looks undamaged stands = comes_to _ _ s s looks.point.points refl (looks_stands S a b s looks stands)
comes_looking S (Some fault) a b s looks undamaged stands = comes_ended fault _ _ s s [] undamaged looks.ends looks.point stands
