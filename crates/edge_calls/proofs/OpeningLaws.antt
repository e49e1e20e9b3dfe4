-- What is planned for a path that is opened, by what it leads to.
use Rattle.std.proofs.Common.{◌≡◌, ◌∙◌, ℕ, ◌||◌, not, Bool, true, false, cond, List, [], refl, sym, ap, subst, None}
use Rattle.std.specs.Prelude.{Result, Ok, Err}
use Rattle.edge_base.specs.commands.Descriptors.{Descriptors, first_empty, is_full}
use Rattle.edge_base.specs.commands.Refusals.{◌>>=◌, refuse_if}
use Rattle.edge_base.specs.declared.geometry.Request.{Request}
use Rattle.edge_base.specs.declared.refusal.Refusal.{Refusal}
use Rattle.edge_base.specs.declared.refusal.Refusal.TheVariants as refusal
use Rattle.edge_base.specs.outside.Below.{Origin}
use Rattle.edge_base.specs.tree.Nodes.{file}
use Rattle.edge_store.specs.State.{StoreState, HasInode}
use Rattle.edge_store.specs.declared.store.Store.{Ghosts as StoreGhosts}
use Rattle.edge_dir.specs.declared.look.Found as look
use Rattle.edge_dir.specs.declared.look.Place.TheVariants.{Taken, Free}
use Rattle.edge_model.specs.declared.command.OpenFlags.{OpenFlags}
use Rattle.edge_model.specs.Asking.{only_reads}
use Rattle.edge_model.specs.Named.{new_name}
use Rattle.edge_model.specs.Open.{are_bad_flags, open_plan, open_there, open_absent, open_spot, plan_open}
use Rattle.edge_model.specs.Rules.{IsTree}
use Rattle.edge_model.specs.State.{State, Plan}
use Rattle.edge_model.specs.Tree.{Tree, is_directory, slots_at}
use Rattle.edge_model.specs.Walk.{Spot, top, within, find_name, at_spot, spot_of}
use Rattle.edge_steps.proofs.NodeLaws.{is_a_directory}
use Rattle.edge_volume.specs.declared.stop.Stop.{Stop}
use Rattle.edge_volume.specs.declared.stop.Stop.TheVariants.{Refused, Fault}
use Rattle.edge_volume.specs.Nodes.{OnTree}
use Rattle.edge_volume.specs.Parts.{Looks}
use Rattle.edge_volume.specs.Stopped.{IfAnswered}
use Rattle.edge_volume.specs.Volume.{StoreStands}
use Rattle.edge_volume.proofs.LookLaws.{looks_stands}
use Rattle.edge_walk.specs.Reached.{IsReached, IsHolder}
use Rattle.edge_walk.specs.Spots.{IsPlaceFor, spotted}
use Rattle.edge_walk.specs.declared.spot.Spot as walk
use Rattle.edge_walk.proofs.StillLaws.{on_tree_before, on_tree_after, reached_after, holder_after, stood_before}
use Rattle.edge_calls.specs.declared.open.Opening.{Opening}
use Rattle.edge_calls.specs.declared.open.Opening.TheVariants.{There, New}
use Rattle.edge_calls.specs.declared.vacant.Vacancy.{Vacancy}
use Rattle.edge_calls.specs.Openings.{IsNew, IsShort, IsThere, OpensAs, OpensIn, made_plan, may_make, may_open, planned_for, root_refusal}

-- ---- plans

module _ (g : Request) (s : State) (flags : OpenFlags) where
  -- of a node that is there
  abbrev to_open : ℕ → Result (Unit {0}) Refusal → Result Plan Refusal
  to_open n r = r >>= λ u. Ok (open_plan flags.truncate g s flags n)

  there_plan : (n : ℕ) → open_there g s flags n ≡ to_open n (may_open s.tree s.descriptors flags n)
  there_plan n = by flags.exclusive (is_directory s.tree n) (is_full s.descriptors)
    where
      by : (x d f : Bool)
          → (refuse_if x refusal.Exists >>= λ u. refuse_if d refusal.IsDir >>= λ v. refuse_if f refusal.TooManyOpen >>= λ w. Ok (open_plan flags.truncate g s flags n))
          ≡ ((refuse_if x refusal.Exists >>= λ u. refuse_if d refusal.IsDir >>= λ v. refuse_if f refusal.TooManyOpen) >>= λ w. Ok (open_plan flags.truncate g s flags n))
      by true d f = refl
      by false true f = refl
      by false false true = refl
      by false false false = refl

  -- of the root
  root_plan : is_directory s.tree 2 ≡ true → open_there g s flags 2 ≡ Err (root_refusal flags)
  root_plan is =
      ap (λ (d : Bool). refuse_if flags.exclusive refusal.Exists >>= λ u. refuse_if d refusal.IsDir >>= λ v. refuse_if (is_full s.descriptors) refusal.TooManyOpen
      >>= λ w. Ok (open_plan flags.truncate g s flags 2)) is
      ∙ by flags.exclusive
    where
      by : (x : Bool)
          → (refuse_if x refusal.Exists >>= λ u. refuse_if true refusal.IsDir >>= λ v. refuse_if (is_full s.descriptors) refusal.TooManyOpen
          >>= λ w. Ok (open_plan flags.truncate g s flags 2)) ≡ Err (cond x refusal.Exists refusal.IsDir)
      by true = refl
      by false = refl

  -- of a name that is free
  abbrev to_make : ℕ → List ℕ → Result (Unit {0}) Refusal → Result Plan Refusal
  to_make d name r = r >>= λ u. new_name g s.tree (within d name) (file [] []) >>= λ new. Ok (made_plan s flags new)

  absent_plan : (d : ℕ) (name : List ℕ) → open_absent g s flags (within d name) ≡ to_make d name (may_make s.descriptors flags)
  absent_plan d name = by (not flags.create) (is_full s.descriptors)
    where
      by : (c f : Bool)
          → (refuse_if c refusal.NoEntry >>= λ u. refuse_if f refusal.TooManyOpen >>= λ v. new_name g s.tree (within d name) (file [] []) >>= λ new. Ok (made_plan s flags new))
          ≡ ((refuse_if c refusal.NoEntry >>= λ u. refuse_if f refusal.TooManyOpen) >>= λ v. new_name g s.tree (within d name) (file [] []) >>= λ new. Ok (made_plan s flags new))
      by true f = refl
      by false true = refl
      by false false = refl

-- ---- a name of a directory

module _ {A : Type 0} (S : StoreGhosts A) (a b : A) (looks : Looks S None a b) (table : Descriptors) (d : ℕ) (name : List ℕ) (flags : OpenFlags) where
  module _ (found : look.Found) (is : OnTree (S.state a) (λ t. IsPlaceFor t d name (Taken found))) where
    in_there : (r : Result (Unit {0}) Refusal) → OnTree (S.state b) (λ t. r ≡ may_open t table flags found.number) → (z : State) → StoreStands (S.state a) z → IsTree (S.state a).origin.request z.tree
        → z.descriptors ≡ table
        → open_spot (S.state a).origin.request z flags (within d name) (at_spot z.tree (within d name)) ≡ to_open (S.state a).origin.request z flags found.number r
    in_there r may z stands tree are =
        let g = (S.state a).origin.request in
        ap (open_spot g z flags (within d name)) (is z stands tree) ∙ there_plan g z flags found.number
        ∙ ap (λ (ds : Descriptors). to_open g z flags found.number (may_open z.tree ds flags found.number)) are
        ∙ ap (to_open g z flags found.number) (sym (on_tree_before S a b looks (λ t. r ≡ may_open t table flags found.number) may z stands tree))

    pub there_refused : (stop : Stop) → IfAnswered {T = Unit {0}} (Err stop) (λ r. OnTree (S.state b) (λ t. r ≡ may_open t table flags found.number))
        → IfAnswered {T = Opening} (Err stop) (OpensIn (S.state a) table d name flags)
    there_refused (Refused e) may = in_there (Err e) may
    there_refused (Fault fault) may = tt

    pub there_opened : OnTree (S.state b) (λ t. Ok tt ≡ may_open t table flags found.number) → OpensIn (S.state a) table d name flags (Ok (There found.number))
    there_opened may = in_there (Ok tt) may

module _ (st : StoreState) (table : Descriptors) (d slot : ℕ) (name : List ℕ) (flags : OpenFlags) (is : OnTree st (λ t. IsPlaceFor t d name (Free slot))) where
  in_absent : (r : Result (Unit {0}) Refusal) → r ≡ may_make table flags → (z : State) → StoreStands st z → IsTree st.origin.request z.tree → z.descriptors ≡ table
      → open_spot st.origin.request z flags (within d name) (at_spot z.tree (within d name)) ≡ to_make st.origin.request z flags d name r
  in_absent r may z stands tree are =
      let g = st.origin.request in
      ap (open_spot g z flags (within d name)) (is z stands tree).0 ∙ absent_plan g z flags d name
      ∙ ap (λ (ds : Descriptors). to_make g z flags d name (may_make ds flags)) are ∙ ap (to_make g z flags d name) (sym may)

  pub absent_refused : (e : Refusal) → Err e ≡ may_make table flags → OpensIn st table d name flags (Err e)
  absent_refused e may = in_absent (Err e) may

pub absent_opened : (st : StoreState) (table : Descriptors) (at : Vacancy) (flags : OpenFlags) → OnTree st (λ t. IsPlaceFor t at.d at.name.now (Free at.slot))
    → Ok tt ≡ may_make table flags → OpensIn st table at.d at.name.now flags (Ok (New at))
absent_opened st table at flags is may = in_absent st table at.d at.slot at.name.now flags is (Ok tt) may

-- ---- a path

module _ (st : StoreState) (table : Descriptors) (path : List ℕ) (flags : OpenFlags) where
  abbrev from_spot : State → Result Spot Refusal → Result Plan Refusal
  from_spot z r = r >>= λ spot. open_spot st.origin.request z flags spot (at_spot z.tree spot)

  opens_by : (b : Bool) → are_bad_flags flags ≡ b → (z : State)
      → plan_open st.origin.request z path flags ≡ (refuse_if b refusal.Invalid >>= λ u. from_spot z (spot_of st.origin.request z.tree path))
  unfolding plan_open
  opens_by b is z = ap (λ (b : Bool). refuse_if b refusal.Invalid >>= λ u. from_spot z (spot_of st.origin.request z.tree path)) is

  pub opens_bad : are_bad_flags flags ≡ true → OpensAs st table path flags (Err refusal.Invalid)
  opens_bad bad z stands tree are = opens_by true bad z

  module _ (good : are_bad_flags flags ≡ false) where
    opens_on : (r : Result Spot Refusal) → OnTree st (λ t. r ≡ spot_of st.origin.request t path) → (z : State) → StoreStands st z → IsTree st.origin.request z.tree
        → plan_open st.origin.request z path flags ≡ from_spot z r
    opens_on r is z stands tree = opens_by false good z ∙ ap (from_spot z) (sym (is z stands tree))

    pub opens_unwalked : (stop : Stop) → IfAnswered {T = walk.Spot} (Err stop) (λ r. OnTree st (λ t. spotted r ≡ spot_of st.origin.request t path))
        → IfAnswered {T = Opening} (Err stop) (OpensAs st table path flags)
    opens_unwalked (Refused e) is = λ z stands tree are. opens_on (Err e) is z stands tree
    opens_unwalked (Fault fault) is = tt

    pub opens_root : OnTree st (λ t. Ok top ≡ spot_of st.origin.request t path) → OpensAs st table path flags (Err (root_refusal flags))
    opens_root is z stands tree are =
        let r = tree.root in
        opens_on (Ok top) is z stands tree ∙ root_plan st.origin.request z flags (is_a_directory z.tree 2 r.0 0 r.1)

module _ {A : Type 0} (S : StoreGhosts A) (a b : A) (looks : Looks S None a b) (table : Descriptors) (path : List ℕ) (d : ℕ) (name : List ℕ) (flags : OpenFlags) (good : are_bad_flags flags ≡ false)
    (is : OnTree (S.state a) (λ t. Ok (within d name) ≡ spot_of (S.state a).origin.request t path)) where
  opens_named : (r : Result Opening Refusal) → OpensIn (S.state b) table d name flags r → OpensAs (S.state a) table path flags r
  opens_named r named z stands tree are =
      opens_on (S.state a) table path flags good (Ok (within d name)) is z stands tree
      ∙ subst (λ (o : Origin). open_spot o.request z flags (within d name) (at_spot z.tree (within d name)) ≡ planned_for o.request z flags r) looks.ends.origin
      (named z (looks_stands S a b z looks stands) (subst (λ (o : Origin). IsTree o.request z.tree) (sym looks.ends.origin) tree) are)

  pub opens_within : (r : Result Opening Stop) → IfAnswered r (OpensIn (S.state b) table d name flags) → IfAnswered r (OpensAs (S.state a) table path flags)
  opens_within (Ok x) named = opens_named (Ok x) named
  opens_within (Err (Refused e)) named = opens_named (Err e) named
  opens_within (Err (Fault fault)) named = tt

-- what is planned stays planned over some reading
pub opens_after : {A : Type 0} (S : StoreGhosts A) (a b : A) → Looks S None a b → (table : Descriptors) (path : List ℕ) (flags : OpenFlags) (r : Result Opening Refusal)
    → OpensAs (S.state a) table path flags r → OpensAs (S.state b) table path flags r
opens_after S a b looks table path flags r opens z stands tree are =
    subst (λ (o : Origin). plan_open o.request z path flags ≡ planned_for o.request z flags r) (sym looks.ends.origin)
    (opens z (stood_before S a b looks z stands) (subst (λ (o : Origin). IsTree o.request z.tree) looks.ends.origin tree) are)

-- ---- an open that only reads

only_by : (w c x t a : Bool) → not (w || c || x || t || a) ≡ true → (t ≡ false) × (c ≡ false)
only_by true c x t a e = absurd (cc)
only_by false true x t a e = absurd (cc)
only_by false false true t a e = absurd (cc)
only_by false false false true a e = absurd (cc)
only_by false false false false a e = (refl, refl)

-- neither makes a file empty nor makes one
pub only_reads_so : (flags : OpenFlags) → only_reads flags ≡ true → (flags.truncate ≡ false) × (flags.create ≡ false)
only_reads_so flags e = only_by flags.write flags.create flags.exclusive flags.truncate flags.append e

-- ---- what is known of what is opened

module _ {A : Type 0} (S : StoreGhosts A) (b c : A) (looks : Looks S None b c) (table : Descriptors) (flags : OpenFlags) (n : ℕ) where
  -- a node that may be opened is no directory
  no_directory : (t : Tree) → Ok tt ≡ may_open t table flags n → is_directory t n ≡ false
  no_directory t may = by flags.exclusive (is_directory t n) may
    where
      by : (x d : Bool) → Ok tt ≡ (refuse_if x refusal.Exists >>= λ u. refuse_if d refusal.IsDir >>= λ v. refuse_if (is_full table) refusal.TooManyOpen) → d ≡ false
      by x false e = refl
      by true true e = absurd (cc)
      by false true e = absurd (cc)

  pub is_there : IsReached (S.state b) n → HasInode (S.state c) n → OnTree (S.state b) (λ t. Ok tt ≡ may_open t table flags n) → IsThere (S.state c) n
  is_there reached there may =
      let r = reached_after S b c looks n reached in
      record {
        number = r.number;
        there = there;
        file = λ z stands tree.
            (r.there z stands tree, on_tree_after S b c looks (λ t. is_directory t n ≡ false) (λ z stands tree. no_directory z.tree (may z stands tree)) z stands tree);
      }

pub is_new : {A : Type 0} (S : StoreGhosts A) (a b : A) → Looks S None a b → (flags : OpenFlags) (at : Vacancy) → IsHolder (S.state a) at.d
    → IsShort (S.state a).origin.request at.name.now → OnTree (S.state a) (λ t. IsPlaceFor t at.d at.name.now (Free at.slot)) → flags.create ≡ true → IsNew (S.state b) flags at
is_new S a b looks flags at holder short is asked = record {
  holder = holder_after S a b looks at.d holder;
  free = on_tree_after S a b looks (λ t. find_name t at.d at.name.now ≡ None) (λ z stands tree. (is z stands tree).0);
  first = on_tree_after S a b looks (λ t. at.slot ≡ first_empty (slots_at t at.d)) (λ z stands tree. (is z stands tree).1);
  short = subst (λ (o : Origin). IsShort o.request at.name.now) (sym looks.ends.origin) short;
  asked = asked;
}
