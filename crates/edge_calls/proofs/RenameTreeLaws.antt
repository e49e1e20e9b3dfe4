-- What a name that is moved is in a tree: no directory names itself, and the node is not the directory of its new name.
use Rattle.std.proofs.Common.{◌≡◌, ◌≢◌, ◌∙◌, ℕ, ◌+◌, ◌==◌, ◌&&◌, ◌<◌, ◌≤◌, not, true, false, List, [], ◌∷◌, inl, inr, refl, sym, ap, subst, arith, eq-eqb, is_some, Some, None}
use Rattle.std.proofs.lemmas.Bool.{false≢true}
use Rattle.std.specs.Prelude.{Result, Ok}
use Rattle.edge_base.specs.commands.Refusals.{◌>>=◌}
use Rattle.edge_base.specs.declared.geometry.Request.{Request}
use Rattle.edge_base.specs.declared.refusal.Refusal.{Refusal}
use Rattle.edge_base.specs.declared.refusal.Refusal.TheVariants as refusal
use Rattle.edge_base.specs.tree.Slots.{Entry}
use Rattle.edge_model.specs.Named.{cleared}
use Rattle.edge_model.specs.Rules.{IsTree}
use Rattle.edge_model.specs.Tree.{Tree, is_directory, names_of_number}
use Rattle.edge_model.specs.Walk.{Spot, within, find_name, found_number, gone_through, top, walk, walk_from}
use Rattle.edge_model.proofs.Members.{IsAmong}
use Rattle.edge_model.proofs.WalkLaws.{walk_in_directory}
use Rattle.edge_steps.proofs.CountLaws.{slot_at, names_changed, ones, ones_named, slot_counted, slot_names}
use Rattle.edge_steps.proofs.NodeLaws.{cleared_slot, directory_is, slot_in_directory}
use Rattle.edge_steps.proofs.ReachLaws.{reach}
use Rattle.edge_steps.proofs.NameLaws.{other_false}
use Rattle.edge_steps.proofs.WalkLaws.{after_found, after_test, each_is, no_top, none_any}
use Rattle.edge_walk.specs.Ways.{goes_through}

-- A directory has one name, and is reached by it from another.
pub names_another : (g : Request) (t : Tree) → IsTree g t → (d i : ℕ) (e : Entry) → slot_at t d i ≡ Some e → d ≢ e.number
names_another g t tree d i e is same = reach t (λ x. x ≡ d → ⊥) over (λ (two : 2 ≡ d). named.1 (sym two)) d (tree.reached d named.0) refl
  where
    named : (is_some (t d) ≡ true) × (d ≢ 2)
    named = tree.named d d (slot_names t d i d e is (sym same))

    range : (2 ≤ d) × (d < 2 + g.inodes)
    range = tree.in_range d named.0

    one : names_of_number g t d ≡ 1
    one = let r = directory_is t d (slot_in_directory t d i e is) in (tree.one_name d r.0 r.1 r.2 named.1).0

    over : (x j : ℕ) (f : Entry) → slot_at t x j ≡ Some f → (x ≡ d → ⊥) → f.number ≡ d → ⊥
    over x j f there other is_d =
        let kind = slot_in_directory t x j f there in
        let u = cleared t x j in
        let set = cleared_slot t x j kind in
        let inside = tree.in_range x (let r = directory_is t x kind in ap (λ o. is_some o) r.2) in
        let fewer = names_changed g t u x j None d set inside.0 inside.1 in
        let gone : ones d (slot_at t x j) ≡ 1 = ap (ones d) there ∙ ones_named d f is_d in
        let still = set.others d i (λ is_x at. other (sym is_x)) ∙ is in
        let counted = subst (λ (n : ℕ). 1 ≤ names_of_number g u n) (sym same) (slot_counted g u d i e range.0 range.1 still) in
        let single = one in
        absurd (omega (arith, fewer, gone, counted, single))

-- the way to a name goes through the directory that holds it
held_by : (x d : ℕ) (name last : List ℕ) → ◌≡◌ {A = Result Spot Refusal} (Ok (within x name)) (Ok (within d last)) → d ≡ x
held_by x d name last is = cc

last_gone_from : (t : Tree) (x : ℕ) (name : List ℕ) (names : List (List ℕ)) (d : ℕ) (last : List ℕ) → walk_from t x name names ≡ Ok (within d last)
    → IsAmong (gone_through t x (name ∷ names)) d
last_gone_from t x name [] d last h = inl (held_by x d name last (after_test (not (is_directory t x)) refusal.NotDir (Ok (within x name)) (within d last) h).1)
last_gone_from t x name (next ∷ more) d last h =
    let r = after_test (not (is_directory t x)) refusal.NotDir (found_number (find_name t x name) >>= λ y. walk_from t y next more) (within d last) h in
    let q = after_found (find_name t x name) (λ y. walk_from t y next more) (within d last) r.1 in
    rw q.1 (inr (last_gone_from t q.0.number next more d last q.2))

last_gone : (t : Tree) (names : List (List ℕ)) (d : ℕ) (last : List ℕ) → walk t names ≡ Ok (within d last) → IsAmong (gone_through t 2 names) d
last_gone t [] d last h = absurd (no_top (Ok top) d last refl h)
last_gone t (name ∷ names) d last h = last_gone_from t 2 name names d last h

-- so a directory that it does not go through is another
pub not_holder : (t : Tree) (names : List (List ℕ)) (n d : ℕ) (last : List ℕ) → walk t names ≡ Ok (within d last)
    → (is_directory t n && goes_through t names n) ≡ false → d ≢ n
not_holder t names n d last goes outside same =
    let kind : is_directory t n ≡ true = ap (λ (x : ℕ). is_directory t x) (sym same) ∙ walk_in_directory t names d last goes in
    let apart = other_false (is_directory t n) (goes_through t names n) outside kind in
    false≢true (sym (each_is (λ x. (x == n) ≡ false) (gone_through t 2 names) d (none_any (λ x. x == n) (gone_through t 2 names) apart) (last_gone t names d last goes)) ∙ eq-eqb d n same)
