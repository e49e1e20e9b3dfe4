-- What a store over the disk leaves at the end of a session: images at points, and the damage that it tells.
use Rattle.std.proofs.Common.{◌≡◌, inl, inr, ℕ, ◌+◌, ◌-◌, ◌<◌, ◌≤◌, ◌^◌, Bool, true, false, cond, List, length, drop, get_or, Some, None, refl, sym, ap, ◌∙◌, subst, arith}
use Rattle.std.specs.Prelude.{is_some}
use Rattle.std.specs.List.{All}
use Rattle.std.proofs.lemmas.List.Elements.{All-get_or}
use Rattle.std.proofs.lemmas.Option.{slice_get-get_or}
use Rattle.edge_base.specs.declared.geometry.Request.{Request}
use Rattle.edge_base.specs.declared.node.Master.{Master}
use Rattle.edge_base.specs.outside.Below.{Origin as Below}
use Rattle.edge_disk.specs.Disk.{DiskState}
use Rattle.edge_disk.specs.Image.{Image}
use Rattle.edge_disk.specs.State.{EachCut}
use Rattle.edge_disk.specs.declared.disk.Disk.{Ghosts}
use Rattle.edge_store.specs.View.{Block, View}
use Rattle.edge_model.specs.Asking.{IsAt, tree_at}
use Rattle.edge_model.specs.Tree.{Tree}
use Rattle.edge_image.specs.Image.{Live, live_of}
use Rattle.edge_image.specs.Opens.{OpensTo}
use Rattle.edge_image.specs.Ready.{IsMountable}
use Rattle.edge_image.specs.View.{block_told}
use Rattle.edge_image.proofs.RoomLaws.{free_and_placed}
use Rattle.edge_image.proofs.ReasonLaws.{without_a_reason}
use Rattle.edge_steps.specs.Room.{LeavesRoom}
use Rattle.edge_volume.specs.Volume.{IsOfTree, IsSomeOfTree}
use Rattle.edge_anchor.specs.Anchor.{Anchor, IsNext, geometry_of}
use Rattle.edge_anchor.specs.Opens.{OpensAs}
use Rattle.edge_phase.proofs.OpenedLaws.{opens_to_tree, room_of_tree}
use Rattle.edge_point.specs.Seen.{IsLeft, anchor_of, last_view, next_view, origin_of, state_of, view_told}
use Rattle.edge_point.specs.declared.parts.Parts.{Parts}
use Rattle.edge_app.specs.Headline.{OpensAtPoint, OpensToNth}
use Rattle.edge_app.specs.declared.report.Report.{Report}
use Rattle.edge_app.specs.declared.report.TheConstants.{DEVICE}

-- ---- an image that opens by an anchor

opened : (a : Anchor) (v : View) (image : Image) (t : Tree) → OpensAs a v image → IsOfTree (geometry_of a) v t → LeavesRoom (geometry_of a) t → a.root.sequence ≤ 2 ^ 63 → OpensTo image t
opened a v image t is of room few = opens_to_tree a v image t is few (let free = room_of_tree a v image t is of.stands in omega arith) of.tree of.stands

nth : (trees : List Tree) (k : ℕ) (image : Image) → k < length trees → OpensTo image (tree_at trees k) → OpensToNth trees k image
nth trees k image below opens = record { tree = tree_at trees k; is_there = slice_get-get_or trees k _ below; opens = opens }

pub told_view : (tells : Bool) (v : View) → tells ≡ true → view_told tells v ≡ v
told_view true v is = refl
told_view false v is = absurd (let no : false ≡ true = is in cc)

some_view : (torn : Bool) (g : Request) (v : View) (t : Tree) → torn ≡ true → IsSomeOfTree g (cond torn (Some v) None) t → IsOfTree g v t
some_view true g v t is of = of
some_view false g v t is of = absurd of

some_torn : (torn : Bool) (v : View) → torn ≡ true → is_some (cond torn (Some v) None) ≡ true
some_torn true v is = refl
some_torn false v is = is

module _ {D : Type 0} (g : Ghosts D) (p : Parts D) (tells : (g.origin p.cache.disk).shows ≡ true) (request : Request) (same : p.master.geometry ≡ request)
    (trees : List Tree) (room : All (LeavesRoom request) trees) (few : p.root.sequence + 1 ≤ 2 ^ 63)
    (at : IsAt (IsOfTree (state_of g p).origin.request (state_of g p).committed) (IsSomeOfTree (state_of g p).origin.request (state_of g p).under_way)
    (is_some (state_of g p).under_way) trees p.points) where
  room_at : (k : ℕ) → k < length trees → LeavesRoom p.master.geometry (tree_at trees k)
  room_at k below = subst (λ (r : Request). LeavesRoom r (tree_at trees k)) (sym same) (All-get_or (LeavesRoom request) trees k _ below room)

  pub last_opens : (image : Image) → OpensAs (anchor_of g p) (last_view g p) image → OpensToNth trees p.points image
  last_opens image is =
      nth trees p.points image at.there
      (opened (anchor_of g p) (last_view g p) image (tree_at trees p.points) is
      (subst (λ (v : View). IsOfTree p.master.geometry v (tree_at trees p.points)) (told_view (g.origin p.cache.disk).shows (last_view g p) tells) at.committed)
      (room_at p.points at.there) (omega arith))

  next_opens : (b : Anchor) (image : Image) → p.torn ≡ true → IsNext (anchor_of g p) b → OpensAs b (next_view g p) image → OpensToNth trees (p.points + 1) image
  next_opens b image torn follows is =
      let next = at.next (some_torn p.torn (view_told (g.origin p.cache.disk).shows (next_view g p)) torn) in
      let t = tree_at trees (p.points + 1) in
      let geometry : p.master.geometry ≡ geometry_of b = ap (λ (m : Master). m.geometry) (sym follows.master) in
      let of : IsOfTree p.master.geometry (next_view g p) t
      = subst (λ (v : View). IsOfTree p.master.geometry v t) (told_view (g.origin p.cache.disk).shows (next_view g p) tells)
      (some_view p.torn p.master.geometry (view_told (g.origin p.cache.disk).shows (next_view g p)) t torn next.1) in
      nth trees (p.points + 1) image next.0
      (opened b (next_view g p) image t is (subst (λ (r : Request). IsOfTree r (next_view g p) t) geometry of)
      (subst (λ (r : Request). LeavesRoom r t) geometry (room_at (p.points + 1) next.0)) (let e = follows.sequence in omega arith))

  pub images_left : (r : Report) → r.points ≡ p.points → (is_some (state_of g p).under_way ≡ true → r.status ≡ DEVICE) → (disk : DiskState)
      → EachCut disk (IsLeft g p) → EachCut disk (OpensAtPoint trees r)
  images_left r points device disk left = λ image permitted plain. elim (left image permitted plain) [
    | inl last ↦ inl (subst (λ (k : ℕ). OpensToNth trees k image) (sym points) (last_opens image last))
    | inr turn ↦ inr (
      device (some_torn p.torn (view_told (g.origin p.cache.disk).shows (next_view g p)) turn.0),
      subst (λ (k : ℕ). OpensToNth trees (k + 1) image) (sym points) (next_opens turn.1.0 image turn.0 turn.1.1 turn.1.2),
    )
  ]

-- ---- what a store was made with

flag : (x y : Bool) → ◌≡◌ {A = ℕ} (cond x 1 0) (cond y 1 0) → x ≡ y
flag true true e = refl
flag false false e = refl
flag true false e = absurd (omega arith)
flag false true e = absurd (omega arith)

module _ {D : Type 0} (g : Ghosts D) (p q : Parts D) (same : origin_of g q ≡ origin_of g p) where
  number : (k : ℕ) → get_or (origin_of g q).others k 0 ≡ get_or (origin_of g p).others k 0
  number k = ap (λ (o : Below). get_or o.others k 0) same

  pub disk_origin : g.origin q.cache.disk ≡ g.origin p.cache.disk
  disk_origin = λ i. record {
    blocks = number 2 i;
    block_size = number 3 i;
    shows = ap (λ (o : Below). o.tells) same i;
    keeps = flag (g.origin q.cache.disk).keeps (g.origin p.cache.disk).keeps (number 4) i;
    others = ap (λ (o : Below). drop 5 o.others) same i;
  }

  pub geometry_same : q.master.geometry ≡ p.master.geometry
  geometry_same = ap (λ (o : Below). o.request) same

  pub sequence_same : q.root.sequence - q.points ≡ p.root.sequence - p.points
  sequence_same = number 0

-- ---- damage

told_block : (t : Bool) (x y : Block) → cond t (Some x) None ≡ Some y → x ≡ y
told_block true x y e = cc
told_block false x y e = absurd (cc e)

pub shown_in : {D : Type 0} (g : Ghosts D) (p : Parts D) → (g.origin p.cache.disk).shows ≡ true → (b : ℕ) (block : Block)
    → (state_of g p).committed.blocks b ≡ Some block → block.bytes ≡ g.shown p.cache.disk b
shown_in g p tells b block is =
    let there : (last_view g p).blocks b ≡ Some block = sym (ap (λ (v : View). v.blocks b) (told_view (g.origin p.cache.disk).shows (last_view g p) tells)) ∙ is in
    ap (λ (x : Block). x.bytes) (sym (told_block _ (block_told p.master.geometry (g.shown p.cache.disk b)) block there))

-- ---- an image that opens

-- the tree of an image leaves room
pub opens_room : (image : Image) (t : Tree) → (opens : OpensTo image t) → LeavesRoom opens.master.geometry t
opens_room image t opens =
    let placed = free_and_placed image t opens in
    let m = without_a_reason image opens.mounts in
    let master : m.0 ≡ opens.master = let e = sym m.2.is_master ∙ opens.is_master in cc in
    let live : m.1 ≡ opens.live = let e = sym m.2.is_live ∙ ap (λ (x : Master). live_of x.geometry image) master ∙ opens.is_live in cc in
    let room : 3 ≤ opens.live.root.free_blocks = subst (λ (l : Live). 3 ≤ l.root.free_blocks) live m.2.room in
    omega arith

module _ (image : Image) (t : Tree) (opens : OpensTo image t) (master : Master) (live : Live) (is : IsMountable image master live) where
  pub same_master : master ≡ opens.master
  same_master = let e = sym is.is_master ∙ opens.is_master in cc

  pub same_live : live ≡ opens.live
  same_live = let e = sym is.is_live ∙ ap (λ (x : Master). live_of x.geometry image) same_master ∙ opens.is_live in cc
