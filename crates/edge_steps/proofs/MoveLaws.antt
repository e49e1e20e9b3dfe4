-- A tree in which a node has another name in place of the one that it had, which may have been another node's, is a tree.
use Rattle.std.proofs.Common.{◌≡◌, ℕ, ◌+◌, ◌≤◌, Bool, true, List, is_some, ◌⊎◌, inl, inr, ⊎_elim, Some, None, refl, sym, ap, ◌∙◌, subst, arith}
use Rattle.std.proofs.lemmas.Bool.{cases_eq}
use Rattle.edge_base.specs.declared.geometry.Request.{Request}
use Rattle.edge_base.specs.tree.Slots.{Entry, Slots}
use Rattle.edge_base.specs.tree.Nodes.{file, directory}
use Rattle.edge_model.specs.Tree.{Tree, slots_at, names_of_number}
use Rattle.edge_model.specs.Rules.{IsTree, IsReached, root, below}
use Rattle.edge_steps.proofs.SlotLaws.{none_some, some_same}
use Rattle.edge_steps.proofs.CountLaws.{slot_at, SameSlots, SlotSet, some_slot, slot_counted, named_slot, slot_names}
use Rattle.edge_steps.proofs.NodeLaws.{HasBase, is_there, directory_there, slot_in_directory}
use Rattle.edge_steps.proofs.ReachLaws.{reach}
use Rattle.edge_steps.proofs.MakeLaws.{number_of}

-- The slots of the tree u: slot sf of df is cleared, slot st of dt holds the entry, and the others are those of t.
pub record SlotsMoved (t u : Tree) (df sf dt st : ℕ) (entry : Entry) : Type 0 where
  pub cleared : slot_at u df sf ≡ None
  pub placed : slot_at u dt st ≡ Some entry
  pub others : (x j : ℕ) → (x ≡ df → j ≡ sf → ⊥) → (x ≡ dt → j ≡ st → ⊥) → slot_at u x j ≡ slot_at t x j

-- first a name is placed, and then the old one is cleared
pub slots_moved : (t held left u : Tree) (df sf dt st : ℕ) (entry : Entry) → SlotSet t held dt st (Some entry) → SlotSet held left df sf None → SameSlots left u → (dt ≡ df → st ≡ sf → ⊥) → SlotsMoved t u df sf dt st entry
slots_moved t held left u df sf dt st entry one two same apart = record {
  cleared = same.same df sf ∙ two.here;
  placed = same.same dt st ∙ two.others dt st apart ∙ one.here;
  others = λ x j not_from not_to. same.same x j ∙ two.others x j not_from ∙ one.others x j not_to;
}

-- The name of slot sf of df is moved to slot st of dt. What was named there is replaced, and may be lost with it.
pub record IsMove (g : Request) (t u : Tree) (df sf dt st : ℕ) (old entry : Entry) (Replaced Lost : ℕ → Type 0) : Type 0 where
  pub was : slot_at t df sf ≡ Some old
  pub same : entry.number ≡ old.number
  pub slots : SlotsMoved t u df sf dt st entry
  pub base : HasBase g u
  -- the directory of the new name is reached in the new tree
  pub holder : IsReached u dt
  -- what is there: all that is not lost
  pub stays : (n : ℕ) → is_some (u n) ≡ true → (is_some (t n) ≡ true) × (Lost n → ⊥)
  pub there : (n : ℕ) → is_some (t n) ≡ true → (Lost n → ⊥) → is_some (u n) ≡ true
  pub files : (n : ℕ) (content : List ℕ) (present : List Bool) → u n ≡ Some (file content present) → t n ≡ Some (file content present)
  pub directories : (n : ℕ) (slots : Slots) (parent : ℕ) → u n ≡ Some (directory slots parent) → (n ≡ old.number → ⊥) → t n ≡ Some (directory (slots_at t n) parent)
  pub moved : (slots : Slots) (parent : ℕ) → u old.number ≡ Some (directory slots parent) → (parent ≡ dt) × ((now : ℕ) × (t old.number ≡ Some (directory (slots_at t old.number) now)))
  -- what is replaced is another node, and has no names in it
  pub lost_is : (n : ℕ) → Lost n → Replaced n
  pub cases : (n : ℕ) → Replaced n ⊎ (Replaced n → ⊥)
  pub cases_lost : (n : ℕ) → Lost n ⊎ (Lost n → ⊥)
  pub other : Replaced old.number → ⊥
  pub leaf : (n j : ℕ) → Replaced n → slot_at t n j ≡ None
  pub at_place : (f : Entry) → slot_at t dt st ≡ Some f → Replaced f.number
  pub is_file : (n : ℕ) (slots : Slots) (parent : ℕ) → Replaced n → (Lost n → ⊥) → t n ≡ Some (directory slots parent) → ⊥
  -- how often numbers are named
  pub same_count : (n : ℕ) → (Replaced n → ⊥) → names_of_number g u n ≡ names_of_number g t n
  pub less : (n : ℕ) → Replaced n → names_of_number g u n + 1 ≡ names_of_number g t n
  pub lost_one : (n : ℕ) → Lost n → names_of_number g t n ≡ 1
  pub kept_more : (n : ℕ) → Replaced n → (Lost n → ⊥) → names_of_number g t n ≡ 1 → ⊥

-- a slot of t that names neither the moved number nor a replaced one is one of u
stays_slot : (g : Request) (t u : Tree) (df sf dt st : ℕ) (old entry : Entry) (Replaced Lost : ℕ → Type 0) → IsMove g t u df sf dt st old entry Replaced Lost
    → (x j : ℕ) (f : Entry) → slot_at t x j ≡ Some f → (f.number ≡ old.number → ⊥) → (Replaced f.number → ⊥) → slot_at u x j ≡ Some f
stays_slot g t u df sf dt st old entry Replaced Lost m x j f h other kept =
    m.slots.others x j
    (λ same at. other (ap (λ (y : Entry). y.number) (some_same f old (sym h ∙ ap (λ y. slot_at t y j) same ∙ ap (slot_at t df) at ∙ m.was))))
    (λ same at. kept (m.at_place f (ap (λ y. slot_at t y st) (sym same) ∙ ap (slot_at t x) (sym at) ∙ h)))
    ∙ h

-- a slot of u is the new one, or was one of t
was_slot : (g : Request) (t u : Tree) (df sf dt st : ℕ) (old entry : Entry) (Replaced Lost : ℕ → Type 0) → IsMove g t u df sf dt st old entry Replaced Lost
    → (x j : ℕ) (f : Entry) → slot_at u x j ≡ Some f → (f ≡ entry) ⊎ (slot_at t x j ≡ Some f)
was_slot g t u df sf dt st old entry Replaced Lost m x j f h = ⊎_elim
    (λ (here : (x ≡ dt) × (j ≡ st)). inl (some_same f entry (sym h ∙ ap (λ y. slot_at u y j) here.0 ∙ ap (slot_at u dt) here.1 ∙ m.slots.placed)))
    (λ (elsewhere : x ≡ dt → j ≡ st → ⊥). inr (sym (m.slots.others x j (λ same at. none_some f (sym m.slots.cleared ∙ ap (λ y. slot_at u y sf) (sym same) ∙ ap (slot_at u x) (sym at) ∙ h)) elsewhere) ∙ h))
    (both x dt j st)
  where
    both : (a b c d : ℕ) → ((a ≡ b) × (c ≡ d)) ⊎ (a ≡ b → c ≡ d → ⊥)
    both a b c d = ⊎_elim (λ (one : a ≡ b). ⊎_elim (λ (two : c ≡ d). inl (one, two)) (λ (differs : c ≡ d → ⊥). inr (λ _ two. differs two)) (cases_eq c d)) (λ (differs : a ≡ b → ⊥). inr (λ one _. differs one)) (cases_eq a b)

-- what is lost has no name left
no_name : (g : Request) (t u : Tree) (df sf dt st : ℕ) (old entry : Entry) (Replaced Lost : ℕ → Type 0) → IsMove g t u df sf dt st old entry Replaced Lost
    → (x j : ℕ) (f : Entry) → slot_at u x j ≡ Some f → Lost f.number → ⊥
no_name g t u df sf dt st old entry Replaced Lost m x j f h lost =
    let inside = number_of g u x m.base (slot_in_directory u x j f h) in
    let counted = slot_counted g u x j f inside.0 inside.1 h in
    let fewer = m.less f.number (m.lost_is f.number lost) in
    let one = m.lost_one f.number lost in
    absurd (omega arith)

moved_reached : (g : Request) (t u : Tree) (df sf dt st : ℕ) (old entry : Entry) (Replaced Lost : ℕ → Type 0) → IsMove g t u df sf dt st old entry Replaced Lost → IsReached u old.number
moved_reached g t u df sf dt st old entry Replaced Lost m = below dt old.number m.holder (slot_names u dt st old.number entry m.slots.placed m.same)

-- all that is not replaced
kept_reached : (g : Request) (t u : Tree) (df sf dt st : ℕ) (old entry : Entry) (Replaced Lost : ℕ → Type 0) → IsMove g t u df sf dt st old entry Replaced Lost → (Replaced 2 → ⊥)
    → (n : ℕ) → IsReached t n → (Replaced n → ⊥) → IsReached u n
kept_reached g t u df sf dt st old entry Replaced Lost m top n r kept = (reach t (λ x. (Replaced x → ⊥) → IsReached u x)
    (λ x j f h k still. ⊎_elim
    (λ (is : f.number ≡ old.number). subst (IsReached u) (sym is) (moved_reached g t u df sf dt st old entry Replaced Lost m))
    (λ (differs : f.number ≡ old.number → ⊥). below x f.number (k (λ replaced. none_some f (sym (m.leaf x j replaced) ∙ h))) (slot_names u x j f.number f (stays_slot g t u df sf dt st old entry Replaced Lost m x j f h differs still) refl))
    (cases_eq f.number old.number))
    (λ _. root) n r) kept

-- what is replaced and keeps another name
replaced_reached : (g : Request) (t u : Tree) (df sf dt st : ℕ) (old entry : Entry) (Replaced Lost : ℕ → Type 0) → IsTree g t → IsMove g t u df sf dt st old entry Replaced Lost → (Replaced 2 → ⊥)
    → (n : ℕ) → is_some (t n) ≡ true → Replaced n → (Lost n → ⊥) → IsReached u n
replaced_reached g t u df sf dt st old entry Replaced Lost tree m top n here replaced kept =
    let fewer = m.less n replaced in
    let more : names_of_number g t n ≡ 1 → ⊥ = m.kept_more n replaced kept in
    let named : 1 ≤ names_of_number g t n = some_names in
    let r = some_slot g u n (omega arith) in
    ⊎_elim
    (λ (is : r.2 ≡ entry). absurd (m.other (subst Replaced (sym r.6 ∙ ap (λ (f : Entry). f.number) is ∙ m.same) replaced)))
    (λ (was : slot_at t r.0 r.1 ≡ Some r.2).
    let dir = slot_in_directory t r.0 r.1 r.2 was in
    below r.0 n (kept_reached g t u df sf dt st old entry Replaced Lost m top r.0 (tree.reached r.0 (directory_there t r.0 dir)) (λ k. none_some r.2 (sym (m.leaf r.0 r.1 k) ∙ was)))
    (slot_names u r.0 r.1 n r.2 r.5 r.6))
    (was_slot g t u df sf dt st old entry Replaced Lost m r.0 r.1 r.2 r.5)
  where
    some_names : 1 ≤ names_of_number g t n
    some_names = let fewer = m.less n replaced in omega arith

pub moved_tree : (g : Request) (t u : Tree) (df sf dt st : ℕ) (old entry : Entry) (Replaced Lost : ℕ → Type 0) → IsTree g t → IsMove g t u df sf dt st old entry Replaced Lost → IsTree g u
moved_tree g t u df sf dt st old entry Replaced Lost tree m =
    let from = tree.named df old.number (slot_names t df sf old.number old m.was refl) in
    let from_there = m.there old.number from.0 (λ lost. m.other (m.lost_is old.number lost)) in
    let top : Replaced 2 → ⊥ = λ replaced. (⊎_elim
    (λ lost. (m.stays 2 (is_there u 2 (directory m.base.root.0 0) m.base.root.1)).1 lost)
    (λ kept. m.is_file 2 tree.root.0 0 replaced kept tree.root.1)
    (m.cases_lost 2)) in
    record {
      in_range = m.base.in_range;
      root = m.base.root;
      nodes = m.base.nodes;
      named = λ x n names.
          let here = named_slot u x n names in
          ⊎_elim
          (λ (is : names.entry ≡ entry).
          let number : old.number ≡ n = sym (sym names.number_is ∙ ap (λ (f : Entry). f.number) is ∙ m.same) in
          (subst (λ k. is_some (u k) ≡ true) number from_there, λ (low : n ≡ 2). from.1 (number ∙ low)))
          (λ (was : slot_at t x names.slot ≡ Some names.entry).
          let k = tree.named x n (slot_names t x names.slot n names.entry was names.number_is) in
          (m.there n k.0 (λ lost. no_name g t u df sf dt st old entry Replaced Lost m x names.slot names.entry here (subst Lost (sym names.number_is) lost)), k.1))
          (was_slot g t u df sf dt st old entry Replaced Lost m x names.slot names.entry here);
      reached = λ n here.
          let was = m.stays n here in
          ⊎_elim
          (λ replaced. replaced_reached g t u df sf dt st old entry Replaced Lost tree m top n was.0 replaced was.1)
          (λ kept. kept_reached g t u df sf dt st old entry Replaced Lost m top n (tree.reached n was.0) kept)
          (m.cases n);
      links = λ n content present is.
          let was = tree.links n content present (m.files n content present is) in
          let there_now = m.stays n (is_there u n (file content present) is) in
          ⊎_elim
          (λ replaced. let fewer = m.less n replaced in let more : names_of_number g t n ≡ 1 → ⊥ = m.kept_more n replaced there_now.1 in (omega arith, omega arith))
          (λ kept. let count = m.same_count n kept in (omega arith, omega arith))
          (m.cases n);
      one_name = λ n slots parent is low.
          let there_now = m.stays n (is_there u n (directory slots parent) is) in
          ⊎_elim
          (λ (is_old : n ≡ old.number).
          let k = m.moved slots parent (ap u (sym is_old) ∙ is) in
          let was = tree.one_name n (slots_at t old.number) k.1.0 (ap t is_old ∙ k.1.1) low in
          (m.same_count n (λ replaced. m.other (subst Replaced is_old replaced)) ∙ was.0, slot_names u parent st n entry (ap (λ y. slot_at u y st) k.0 ∙ m.slots.placed) (m.same ∙ sym is_old)))
          (λ (differs : n ≡ old.number → ⊥).
          let before = m.directories n slots parent is differs in
          let was = tree.one_name n (slots_at t n) parent before low in
          let kept : Replaced n → ⊥ = λ replaced. m.is_file n (slots_at t n) parent replaced there_now.1 before in (
            m.same_count n kept ∙ was.0,
            slot_names u parent was.1.slot n was.1.entry (stays_slot g t u df sf dt st old entry Replaced Lost m parent was.1.slot was.1.entry (named_slot t parent n was.1)
                (λ is_old. differs (sym was.1.number_is ∙ is_old)) (λ replaced. kept (subst Replaced was.1.number_is replaced))) was.1.number_is,
          ))
          (cases_eq n old.number);
    }
