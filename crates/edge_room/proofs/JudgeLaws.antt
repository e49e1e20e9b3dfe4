-- How a change is judged that an edit of a command's plan names.
use Rattle.std.proofs.Common.{◌≡◌, ◌∙◌, ℕ, ◌+◌, ◌≤◌, ◌==◌, ◌&&◌, not, nat_lt, Bool, true, false, List, [], ◌∷◌, is_some, refl, sym, ap, subst, Option, Some, None}
use Rattle.std.specs.Prelude.{◌*◌, ◌/◌, ◌<◌, Result, Ok, Err, OnOk, IfOk, IfSome}
use Rattle.std.specs.List.{list_any, range_with_len}
use Rattle.std.proofs.Math.Nat.{mul-div_cancel_left}
use Rattle.std.proofs.lemmas.Bool.{leb-true, le-leb, eq-eqb}
use Rattle.edge_base.specs.commands.Events as event
use Rattle.edge_base.specs.declared.geometry.Request.{Request}
use Rattle.edge_base.specs.layout.Places.{IsGeometry}
use Rattle.edge_base.specs.outside.Below.{Origin}
use Rattle.edge_base.specs.declared.node.Head.{Head}
use Rattle.edge_base.specs.declared.node.NodeType.TheVariants.{File, Directory}
use Rattle.edge_base.specs.tree.Nodes.{Node, file, directory, indices_of}
use Rattle.edge_base.specs.tree.Positions.{data_at}
use Rattle.edge_base.specs.tree.Slots as tree
use Rattle.edge_base.specs.tree.Slots.{slot_blocks}
use Rattle.edge_store.specs.declared.fault.StoreFault.{StoreFault}
use Rattle.edge_store.specs.declared.fault.StoreFault.TheVariants.{Damaged}
use Rattle.edge_store.specs.Calls.{Called, KeepsPoint, KeepsWorking, NeverDamaged, TakesPoint}
use Rattle.edge_store.specs.Fresh.{fresh_count}
use Rattle.edge_store.specs.State.{StoreState, Told, IsNumber, HasInode}
use Rattle.edge_store.specs.Told.{MeetsNone}
use Rattle.edge_store.specs.Placed.{HasNode, IsShaped, data_block}
use Rattle.edge_store.specs.View.{View, free_now, free_after, head_of_inode, entries_of_inode, whole}
use Rattle.edge_store.proofs.ChangedLaws.{same_truth}
use Rattle.edge_store.proofs.NodeEffects.{no_blocks}
use Rattle.edge_shape.specs.Shape.{HasShape}
use Rattle.edge_count.proofs.KeptLaws.{absent_is}
use Rattle.edge_space.specs.declared.change.Change.{Change}
use Rattle.edge_space.specs.declared.change.Change.TheVariants.{Bytes, Size, Slots}
use Rattle.edge_space.specs.declared.change.SlotAt.{SlotAt}
use Rattle.edge_dir.specs.Directory.{IsDirectoryNode}
use Rattle.edge_space.specs.Answers.{AreThere, IsSoundDirectory, NeverOnNamed, HasRoomFor, IsFitting, count_of_change}
use Rattle.edge_space.specs.Changes.{AreLeft, AreShaped, writes_of, removes_of}
use Rattle.edge_model.specs.Asked.{Asked, space}
use Rattle.edge_model.specs.Rules.{IsTree}
use Rattle.edge_model.specs.State.{State, Plan, Edit, Judged, judged, judged_by, judged_full, keeps, fits, gains_by_point, point_taken}
use Rattle.edge_model.specs.Step.{plan, room_of}
use Rattle.edge_model.specs.Tree.{Tree, links_of}
use Rattle.edge_steps.proofs.PlanLaws.{some_bytes}
use Rattle.edge_steps.proofs.PointLaws.{same_plan}
use Rattle.edge_steps.proofs.SessionLaws.{point_session}
use Rattle.edge_stands.specs.Stands.{StandsWith, head_with, indices_at}
use Rattle.edge_stands.proofs.FreshLaws.{fits_counted}
use Rattle.edge_stands.proofs.NodeLaws.{with_links_of}
use Rattle.edge_stands.proofs.SpaceLaws.{gains_is}
use Rattle.edge_stands.proofs.StandingLaws.{each_node, each_shape, each_shaped}
use Rattle.edge_volume.specs.Stopped.{fault_in}
use Rattle.edge_volume.specs.Volume.{StoreStands}
use Rattle.edge_volume.specs.Parts.{EndsBy, IsOfNoDamage, Comes}
use Rattle.edge_volume.proofs.ComeLaws.{comes_on, comes_to, comes_ended}
use Rattle.edge_volume.proofs.LookLaws.{stands_still}
use Rattle.edge_volume.proofs.PointLaws.{point_comes}
use Rattle.edge_room.specs.Room.{Plans, HasRoomWhere, blocks_in}
use Rattle.edge_room.proofs.NamedLaws.{count_named}

-- ---- a point

-- whether one is asked for and gains blocks, by what is told of the free ones
pub gains_told : (st : StoreState) (full : Bool) (now after : ℕ) (z : State) → now ≡ free_now st.origin.request st.committed st.working
    → after ≡ free_after st.origin.request st.working → StoreStands st z → full ≡ event.has_event z.mask event.full
    → (full && nat_lt now after) ≡ gains_by_point st.origin.request z
gains_told st full now after z is_now is_after stands is_full =
    (λ i. is_full i && nat_lt (is_now i) (is_after i)) ∙ sym (gains_is st.origin.request st.committed st.working z stands.views)

-- ---- the nodes of a change

one_head : (x y : Head) → Some x ≡ Some y → x ≡ y
one_head x y e = cc

same_factor : (n a b : ℕ) → 0 < n → n * a ≡ n * b → a ≡ b
same_factor n a b some same = sym (mul-div_cancel_left a some) ∙ ap (λ (x : ℕ). x / n) same ∙ mul-div_cancel_left b some

module _ (st : StoreState) (z : State) (stands : StoreStands st z) where
  with_all : StandsWith st.origin.request st.working z.tree (links_of st.origin.request z.tree)
  with_all = (with_links_of st.origin.request st.working z.tree).0 stands.views.tree

  -- a number that has an inode has a node
  node_of : (n : ℕ) → HasInode st n → (node : Node) × (z.tree n ≡ Some node)
  node_of n there = by (z.tree n) refl
    where
      by : (o : Option Node) → z.tree n ≡ o → (node : Node) × (z.tree n ≡ Some node)
      by None none =
          let absent = (stands.views.tree.numbers n).0 none in
          let some = there stands.told in
          absurd (let f : false ≡ true = sym (ap is_some absent) ∙ some in cc)
      by (Some node) is = (node, is)

  -- the data blocks of a directory are those of the tree, by its size
  same_blocks : (d : ℕ) (slots : tree.Slots) (parent : ℕ) → IsGeometry st.origin.request → HasNode st.origin.request st.working d (directory slots parent)
      → blocks_in st.origin.request z.tree d ≡ indices_of st.origin.request (directory slots parent)
  same_blocks d slots parent geometry node = by (z.tree d) refl
    where
      g : Request
      g = st.origin.request

      by_node : (other : Node) → head_of_inode (st.working.inodes d) ≡ Some (head_with g (links_of g z.tree d) other) → indices_of g other ≡ indices_of g (directory slots parent)
      by_node (file content present) is =
          absurd (let wrong : File ≡ Directory = ap (λ (h : Head). h.kind) (one_head _ _ (sym is ∙ ap head_of_inode node.inode)) ∙ node.kind in cc)
      by_node (directory others holder) is =
          let size : g.block_size * slot_blocks g others ≡ g.block_size * slot_blocks g slots = ap (λ (h : Head). h.size) (one_head _ _ (sym is ∙ ap head_of_inode node.inode)) ∙ node.size in
          ap (range_with_len 0) (same_factor g.block_size (slot_blocks g others) (slot_blocks g slots) (some_bytes g geometry) size)

      by : (o : Option Node) → z.tree d ≡ o → indices_at g o ≡ indices_of g (directory slots parent)
      by None none =
          let absent = (stands.views.tree.numbers d).0 none in
          absurd (let wrong : None ≡ Some (whole node.head node.entries) = sym absent ∙ node.inode in cc)
      by (Some other) is = by_node other (ap head_of_inode (with_all.nodes d other is).head.inode)

  -- they have the shape of nodes, with the data blocks of the tree
  pub shaped : (change : Change) (left : ℕ) → IsGeometry st.origin.request → AreThere st change → AreLeft st.origin.request st.working change left
      → AreShaped st.origin.request st.working change (blocks_in st.origin.request z.tree) left
  shaped (Bytes n at len) left geometry there are = tt
  shaped (Slots put None) left geometry there are = tt
  shaped (Slots put (Some clear)) left geometry there are = (are, same_blocks clear.dir are.slots are.parent geometry are.node)
  shaped (Size n size) left geometry there are =
      let k = node_of n there.1 in
      subst (λ (o : Option Node). HasShape st.origin.request st.working n (indices_at st.origin.request o)) (sym k.1)
      (each_shape st.origin.request st.working z.tree _ stands.views.working_is_view with_all n k.0 k.1 geometry)

  -- the data blocks of each number are those of the tree
  pub blocks_are : IsGeometry st.origin.request → (n x : ℕ) → not (data_block st.origin.request st.working n x == 0) ≡ list_any (λ k. k == x) (blocks_in st.origin.request z.tree n)
  blocks_are geometry n x = by (z.tree n) refl
    where
      g : Request
      g = st.origin.request

      twice : (b : Bool) → not (not b) ≡ b
      twice true = refl
      twice false = refl

      by : (o : Option Node) → z.tree n ≡ o → not (data_block g st.working n x == 0) ≡ list_any (λ k. k == x) (indices_at g o)
      by None is = ap not (eq-eqb _ 0 (no_blocks g st.working n 0 (ap entries_of_inode ((stands.views.tree.numbers n).0 is)) (data_at n x) refl))
      by (Some node) is =
          ap not (absent_is g st.working n (indices_of g node) (each_shape g st.working z.tree _ stands.views.working_is_view with_all n node is geometry) x)
          ∙ twice (list_any (λ k. k == x) (indices_of g node))

  never_told : {T : Type 0} (r : Result T StoreFault) → NeverDamaged r → IsOfNoDamage (fault_in r)
  never_told (Ok x) never d e = absurd (cc)
  never_told (Err fault) never d e = never d (ap Err (let h : Some fault ≡ Some (Damaged d) = e in cc))

  -- a directory keeps its rules
  sound_directory : (d : ℕ) → IsTree st.origin.request z.tree → HasInode st d → IsDirectoryNode st d → IsSoundDirectory st d
  sound_directory d tree there kind = let k = node_of d there in let h = kind stands.told in by k.0 k.1 (sym (ap head_of_inode (with_all.nodes d k.0 k.1).head.inode) ∙ h.1) h.2
    where
      by : (node : Node) → z.tree d ≡ Some node → {head : Head} → Some (head_with st.origin.request (links_of st.origin.request z.tree d) node) ≡ Some head → head.kind ≡ Directory → IsSoundDirectory st d
      by (file content present) is same kind = absurd (let wrong : File ≡ Directory = ap (λ (h : Head). h.kind) (one_head _ _ same) ∙ kind in cc)
      by (directory slots parent) is same kind = (
        slots,
        parent,
        each_node st.origin.request st.working z.tree _ stands.views.working_is_view with_all d (directory slots parent) is (tree.nodes d (directory slots parent) is),
      )

  put_shaped : (put : Option SlotAt) → IfSome put (λ at. IsNumber st at.dir × HasInode st at.dir) → IfSome put (λ at. IsShaped st.origin.request st.working at.dir)
  put_shaped None there = tt
  put_shaped (Some at) there = let k = node_of at.dir there.1 in each_shaped st.origin.request st.working z.tree _ stands.views.working_is_view with_all at.dir k.0 k.1

  clear_sound : (clear : Option SlotAt) → IsTree st.origin.request z.tree → IfSome clear (λ at. IsNumber st at.dir × HasInode st at.dir × IsDirectoryNode st at.dir)
      → IfSome clear (λ at. IsSoundDirectory st at.dir)
  clear_sound None tree there = tt
  clear_sound (Some at) tree there = sound_directory at.dir tree there.1 there.2

  -- so no damage is told of them
  pub undamaged : {T : Type 0} (change : Change) (r : Result T StoreFault) → IsTree st.origin.request z.tree → AreThere st change → NeverOnNamed st change r → IsOfNoDamage (fault_in r)
  undamaged (Slots put clear) r tree there never = never_told r (never stands.told (put_shaped put there.0) (clear_sound clear tree there.1))
  undamaged (Bytes n at len) r tree there never =
      let k = node_of n there.1 in
      never_told r (never stands.told (each_shaped st.origin.request st.working z.tree _ stands.views.working_is_view with_all n k.0 k.1))
  undamaged (Size n size) r tree there never =
      let k = node_of n there.1 in
      never_told r (never stands.told (each_shaped st.origin.request st.working z.tree _ stands.views.working_is_view with_all n k.0 k.1))

both_still : (a b : StoreState) (n : ℕ) → b.origin ≡ a.origin → b.working ≡ a.working → IsNumber a n × HasInode a n → IsNumber b n × HasInode b n
both_still a b n origin working there = (
  rw origin there.0,
  (λ told. rw working (there.1 (ap (λ (o : Origin). o.tells) (sym origin) ∙ told))),
)

put_still : (a b : StoreState) (put : Option SlotAt) → b.origin ≡ a.origin → b.working ≡ a.working → IfSome put (λ at. IsNumber a at.dir × HasInode a at.dir)
    → IfSome put (λ at. IsNumber b at.dir × HasInode b at.dir)
put_still a b None origin working there = tt
put_still a b (Some at) origin working there = both_still a b at.dir origin working there

clear_still : (a b : StoreState) (clear : Option SlotAt) → b.origin ≡ a.origin → b.working ≡ a.working
    → IfSome clear (λ at. IsNumber a at.dir × HasInode a at.dir × IsDirectoryNode a at.dir) → IfSome clear (λ at. IsNumber b at.dir × HasInode b at.dir × IsDirectoryNode b at.dir)
clear_still a b None origin working there = tt
clear_still a b (Some at) origin working there =
    let both = both_still a b at.dir origin working (there.0, there.1) in
    (both.0, both.1, λ told. rw working (there.2 (ap (λ (o : Origin). o.tells) (sym origin) ∙ told)))

-- where a store keeps its working view they are still there
pub there_still : (a b : StoreState) (change : Change) → b.origin ≡ a.origin → b.working ≡ a.working → AreThere a change → AreThere b change
there_still a b (Bytes n at len) origin working there = both_still a b n origin working there
there_still a b (Size n size) origin working there = both_still a b n origin working there
there_still a b (Slots put clear) origin working there = (put_still a b put origin working there.0, clear_still a b clear origin working there.1)

-- ---- what is judged

module _ (st : StoreState) (full : Bool) (change : Change) (reserve : ℕ) (z : State) (command : Asked) (p : Plans st full change reserve z command) where
  -- the answer of `fits` is that of the model
  pub fits_told : (b : Bool) → IsGeometry st.origin.request → AreThere st change → IsFitting st change reserve b → b ≡ fits st.origin.request z p.edit
  fits_told b geometry there is =
      let g = st.origin.request in
      let left = p.names.left in
      let told = is p.stands.told (blocks_in g z.tree) left (shaped st z p.stands change left geometry there p.names.are_left) in
      let counted = count_named g st.committed st.working z.tree p.edit.tree (blocks_are st z p.stands geometry) p.edit.writes p.edit.removes (writes_of g st.working change left) (removes_of g st.working change (blocks_in g z.tree) left) p.names.writes p.names.removes p.names.stay in
      let low : fresh_count g st.committed st.working p.edit.writes p.edit.removes + p.edit.reserve ≡ count_of_change st change (blocks_in g z.tree) left + reserve = (λ i. counted i + p.names.leaves i) in
      let by_count = fits_counted g st.committed st.working z command p.done p.edit geometry p.of_bytes p.in_limits p.session.trees p.session.dirty.upwards p.stands.views p.is p.has_edit in
      same_truth b (fits g z p.edit)
      (λ h. by_count.1 (subst (λ (n : ℕ). n ≤ free_now g st.committed st.working) (sym low) (leb-true _ _ (sym told ∙ h))))
      (λ h. told ∙ le-leb _ _ (subst (λ (n : ℕ). n ≤ free_now g st.committed st.working) low (by_count.0 h)))

  -- it fits at once
  pub judged_fits : fits st.origin.request z p.edit ≡ true → judged st.origin.request z p.done.edit ≡ record { state = z; points = []; fits = true }
  unfolding judged
  judged_fits fit = ap (judged st.origin.request z) p.has_edit ∙ ap (λ b. judged_by b st.origin.request z p.edit) fit

  -- it does not, and no point is to be taken
  pub judged_unfit : fits st.origin.request z p.edit ≡ false → gains_by_point st.origin.request z ≡ false
      → judged st.origin.request z p.done.edit ≡ record { state = z; points = []; fits = false }
  unfolding judged
  judged_unfit unfit none =
      ap (judged st.origin.request z) p.has_edit ∙ ap (λ b. judged_by b st.origin.request z p.edit) unfit ∙ ap (λ b. judged_full b st.origin.request z p.edit) none

  -- it is judged once more after a point
  pub judged_again : fits st.origin.request z p.edit ≡ false → gains_by_point st.origin.request z ≡ true
      → judged st.origin.request z p.done.edit ≡ record { state = point_taken z; points = z.tree ∷ []; fits = fits st.origin.request (point_taken z) p.edit }
  unfolding judged
  judged_again unfit some =
      ap (judged st.origin.request z) p.has_edit ∙ ap (λ b. judged_by b st.origin.request z p.edit) unfit ∙ ap (λ b. judged_full b st.origin.request z p.edit) some

  -- the same is planned where the views are the same
  abbrev pub plans_still : (b : StoreState) → b.origin ≡ st.origin → b.working ≡ st.working → StoreStands b z → Plans b full change reserve z command
  plans_still b origin working stands = record {
    stands = stands;
    session = rw origin p.session;
    is_full = p.is_full;
    of_bytes = p.of_bytes;
    in_limits = p.in_limits;
    done = p.done;
    is = rw origin p.is;
    edit = p.edit;
    has_edit = p.has_edit;
    names = rw (origin, working) p.names;
  }

-- `space` plans no edit
pub no_edit_of_space : (g : Request) (z : State) (p : Plan) (e : Edit) (command : Asked) → plan g z command ≡ Ok p → p.edit ≡ Some e → command ≡ space → ⊥
no_edit_of_space g z p e command is has_edit same =
    let told : Ok (keeps z (room_of g z)) ≡ Ok p = sym (ap (plan g z) same) ∙ is in
    let none : None ≡ p.edit = (let h : keeps z (room_of g z) ≡ p = cc in ap (λ (q : Plan). q.edit) h) in
    absurd (let f : None ≡ Some e = none ∙ has_edit in cc)

-- the same is planned after a point
abbrev pub plans_after : (a b : StoreState) (full : Bool) (change : Change) (reserve : ℕ) (z : State) (command : Asked) → b.origin ≡ a.origin → b.working ≡ a.working
    → StoreStands b (point_taken z) → Plans a full change reserve z command → Plans b full change reserve (point_taken z) command
plans_after a b full change reserve z command origin working stands p = record {
  stands = stands;
  session = rw origin (point_session a.origin.request z p.session);
  is_full = p.is_full;
  of_bytes = p.of_bytes;
  in_limits = p.in_limits;
  done = p.done;
  is = rw origin (same_plan a.origin.request z command (no_edit_of_space a.origin.request z p.done p.edit command p.is p.has_edit) ∙ p.is);
  edit = p.edit;
  has_edit = p.has_edit;
  names = rw (origin, working) p.names;
}

-- ---- the room that is told

-- by the answer of `fits`, in the store as it leaves it
pub room_still : (a b : StoreState) (change : Change) (reserve : ℕ) (r : Result Bool StoreFault) → b.origin ≡ a.origin → b.committed ≡ a.committed
    → OnOk r (KeepsWorking a b) → IfOk r (HasRoomFor a change reserve) → IfOk r (HasRoomWhere b change reserve)
room_still a b change reserve (Ok x) origin committed keeps told = λ fit told_b left are.
    let told_a : Told a = ap (λ (o : Origin). o.tells) (sym origin) ∙ told_b in
    let were : AreLeft a.origin.request a.working change left =
    subst (λ (v : View). AreLeft a.origin.request v change left) keeps.working (subst (λ (o : Origin). AreLeft o.request b.working change left) origin are) in
    let low = leb-true _ _ (sym (told told_a left were) ∙ fit) in
    rw (origin, committed, keeps.working) low
room_still a b change reserve (Err fault) origin committed keeps told = told

-- ---- the ends of the judge

-- a fault comes as the change is judged first
pub judged_fault : (a b : StoreState) (full : Bool) (change : Change) (reserve : ℕ) (z r : State) (command : Asked) (points : List Tree) (fault : StoreFault) → Plans a full change reserve z command
    → AreThere a change → NeverOnNamed {T = Bool} a change (Err fault) → EndsBy (Some fault) a b → KeepsPoint a b → Comes (Some fault) a b z r points
judged_fault a b full change reserve z r command points fault p there never ends point =
    comes_ended fault a b z r points (undamaged a z p.stands {T = Bool} change (Err fault) p.session.trees.tree there never) ends point p.stands

module _ (a m : StoreState) (full : Bool) (change : Change) (reserve : ℕ) (z : State) (command : Asked) (p : Plans a full change reserve z command) (geometry : IsGeometry a.origin.request)
    (there : AreThere a change) (ends : EndsBy None a m) (point : KeepsPoint a m) (reads : KeepsWorking a m) (b : Bool) (fitting : IsFitting a change reserve b) where
  abbrev judgement : Judged
  judgement = judged a.origin.request z p.done.edit

  stands_looked : StoreStands m z
  stands_looked = stands_still a m z ends point reads p.stands

  looked : Comes None a m z z []
  looked = comes_to a m z z point.points refl stands_looked

  is_fitting : b ≡ fits a.origin.request z p.edit
  is_fitting = fits_told a full change reserve z command p b geometry there fitting

  -- it fits at once
  pub at_once : b ≡ true → Comes None a m z judgement.state judgement.points
  at_once fit = subst (λ (j : Judged). Comes None a m z j.state j.points) (sym (judged_fits a full change reserve z command p (sym is_fitting ∙ fit))) looked

  pub at_once_fits : b ≡ true → true ≡ judgement.fits
  at_once_fits fit = sym (ap (λ (j : Judged). j.fits) (judged_fits a full change reserve z command p (sym is_fitting ∙ fit)))

  module _ (unfit : b ≡ false) (gain : Bool) (gaining : (x : State) → StoreStands m x → full ≡ event.has_event x.mask event.full → gain ≡ gains_by_point m.origin.request x) where
    is_gaining : gain ≡ gains_by_point a.origin.request z
    is_gaining = gaining z stands_looked p.is_full ∙ ap (λ (o : Origin). gains_by_point o.request z) ends.origin

    -- no point is to be taken
    pub never : gain ≡ false → Comes None a m z judgement.state judgement.points
    never none = subst (λ (j : Judged). Comes None a m z j.state j.points) (sym (judged_unfit a full change reserve z command p (sym is_fitting ∙ unfit) (sym is_gaining ∙ none))) looked

    pub never_fits : gain ≡ false → false ≡ judgement.fits
    never_fits none = sym (ap (λ (j : Judged). j.fits) (judged_unfit a full change reserve z command p (sym is_fitting ∙ unfit) (sym is_gaining ∙ none)))

    module _ (some : gain ≡ true) (n : StoreState) where
      is_again : judgement ≡ record { state = point_taken z; points = z.tree ∷ []; fits = fits a.origin.request (point_taken z) p.edit }
      is_again = judged_again a full change reserve z command p (sym is_fitting ∙ unfit) (sym is_gaining ∙ some)

      -- the point is taken, or a fault comes in it
      pub in_point : {T : Type 0} (r : Result T StoreFault) → Called m n r → MeetsNone m r → TakesPoint m n r → Comes (fault_in r) a n z (point_taken z) (z.tree ∷ [])
      in_point r called met takes = comes_on (fault_in r) a m n z z (point_taken z) [] (z.tree ∷ []) looked refl (point_comes m n r z called met takes stands_looked)

      pub point_fault : {T : Type 0} (fault : StoreFault) → Called {T = T} m n (Err fault) → MeetsNone {T = T} m (Err fault) → TakesPoint {T = T} m n (Err fault)
          → Comes (Some fault) a n z judgement.state judgement.points
      point_fault {T = T} fault called met takes = subst (λ (j : Judged). Comes (Some fault) a n z j.state j.points) (sym is_again) (in_point {T = T} (Err fault) called met takes)

      -- it is judged once more
      module _ {T : Type 0} (x : T) (called : Called m n (Ok x)) (met : MeetsNone m (Ok x)) (takes : TakesPoint m n (Ok x)) (last : StoreState) where
        origin_then : n.origin ≡ a.origin
        origin_then = called.origin ∙ ends.origin

        working_then : n.working ≡ a.working
        working_then = takes.working.working ∙ reads.working

        stands_then : StoreStands n (point_taken z)
        stands_then = (in_point (Ok x) called met takes).to_state refl

        abbrev plans_then : Plans n full change reserve (point_taken z) command
        plans_then = plans_after a n full change reserve z command origin_then working_then stands_then p

        pub once_more : (fault : Option StoreFault) → Comes fault n last (point_taken z) (point_taken z) [] → Comes fault a last z judgement.state judgement.points
        once_more fault look = subst (λ (j : Judged). Comes fault a last z j.state j.points) (sym is_again)
            (comes_on fault a n last z (point_taken z) (point_taken z) (z.tree ∷ []) [] (in_point (Ok x) called met takes) refl look)

        pub once_more_looks : {U : Type 0} (r : Result U StoreFault) → AreThere n change → NeverOnNamed n change r → EndsBy (fault_in r) n last → KeepsPoint n last → OnOk r (KeepsWorking n last)
            → Comes (fault_in r) n last (point_taken z) (point_taken z) []
        once_more_looks (Ok y) still never_told ended kept keeps = comes_to n last (point_taken z) (point_taken z) kept.points refl (stands_still n last (point_taken z) ended kept keeps stands_then)
        once_more_looks {U = U} (Err fault) still never_told ended kept keeps =
            comes_ended fault n last (point_taken z) (point_taken z) [] (undamaged n (point_taken z) stands_then {T = U} change (Err fault) (subst (λ (o : Origin). IsTree o.request z.tree) (sym origin_then) p.session.trees.tree) still never_told) ended kept stands_then

        pub once_more_fits : (r : Result Bool StoreFault) → AreThere n change → IfOk r (IsFitting n change reserve) → IfOk r (λ fit. fit ≡ judgement.fits)
        once_more_fits (Ok fit) still is =
            fits_told n full change reserve (point_taken z) command plans_then fit (subst (λ (o : Origin). IsGeometry o.request) (sym origin_then) geometry) still is
            ∙ ap (λ (o : Origin). fits o.request (point_taken z) p.edit) origin_then ∙ sym (ap (λ (j : Judged). j.fits) is_again)
        once_more_fits (Err fault) still is = tt
