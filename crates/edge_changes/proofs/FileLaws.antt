-- Files of a tree that are written or get a size.
use Rattle.std.proofs.Common.{◌≡◌, ℕ, ◌+◌, ◌-◌, ◌/◌, ◌<◌, ◌≤◌, ◌&&◌, ◌||◌, max, Bool, true, false, List, [], ◌++◌, length, map, Option, Some, refl, sym, ap, ◌∙◌, arith}
use Rattle.edge_base.specs.declared.geometry.Request.{Request}
use Rattle.edge_base.specs.declared.node.Head.{Head}
use Rattle.edge_base.specs.declared.node.NodeType.TheVariants.{File}
use Rattle.edge_base.specs.layout.Places.{IsGeometry, max_size_of}
use Rattle.edge_base.specs.tree.Nodes.{file, indices_of}
use Rattle.edge_base.specs.tree.NodeRules.{IsFile}
use Rattle.edge_base.specs.tree.Positions.{Position, data_at, has}
use Rattle.edge_store.specs.Changed.{has_index, NodeChanged, NodeDirtied}
use Rattle.edge_store.specs.Placed.{HasPlaces, HoldsNode}
use Rattle.edge_store.specs.View.{View, IsView, head_of_inode, is_whole, entries_of_inode}
use Rattle.edge_store.proofs.ChangedLaws.{changed_same, dirtied_same}
use Rattle.edge_store.proofs.ViewLaws.{whole_with_head}
use Rattle.edge_moves.proofs.SlotLaws.{entries_fit, some_pointers_fit}
use Rattle.edge_count.proofs.RunLaws.{div_mono}
use Rattle.edge_file.specs.Bytes.{blocks_under}
use Rattle.edge_file.specs.Rewritten.{IsWritten}
use Rattle.edge_file.specs.Writing.{grown}
use Rattle.edge_file.proofs.ChangeLaws.{rewritten_changed, rewritten_dirty}
use Rattle.edge_file.proofs.FileLaws.{file_written}
use Rattle.edge_file.proofs.RangeLaws.{under_in_range, lists-append}
use Rattle.edge_file.proofs.StepLaws.{some_bytes}
use Rattle.edge_space.proofs.BytesLaws.{bytes_run}
use Rattle.edge_model.specs.Files.{put_at, flags_for, is_marked, is_touched, blocks_touched, written}
use Rattle.edge_model.specs.Rules.{IsTree}
use Rattle.edge_model.specs.Tree.{Tree, links_of, with_node}
use Rattle.edge_image.specs.Opens.{StandsFor, HasHead, head_of_node}
use Rattle.edge_steps.specs.Listed.{IsListed}
use Rattle.edge_steps.proofs.FileLaws.{put_length}
use Rattle.edge_stands.specs.Stands.{head_with}
use Rattle.edge_stands.proofs.DirtyLaws.{tree_same}
use Rattle.edge_changes.specs.Edited.{IsEdited, HasHeadOf}
use Rattle.edge_changes.proofs.ByteLaws.{put_bytes, absent_zeros}
use Rattle.edge_changes.proofs.EditLaws.{text_of, flags_of, file_of, had_by, file_stands, file_dirtied, file_lists}
use Rattle.edge_changes.proofs.MemberLaws.{mapped}

-- what is told of the head of a file after a change of its size
pub told_head : (g : Request) (v w : View) (t : Tree) (n size : ℕ) (then : Option Head → Option Head) (content : List ℕ) (present : List Bool) → StandsFor g v t → t n ≡ Some (file_of t n) → length content ≡ size
    → then (Some (head_of_node g t n (file_of t n))) ≡ Some (record { size = size; kind = File; links = links_of g t n; parent = 0 })
    → HasHeadOf v w n then → HasHead w n (head_with g (links_of g t n) (file content present))
told_head g v w t n size then content present stands there long same has =
    let now : head_of_inode (w.inodes n) ≡ Some (head_with g (links_of g t n) (file content present)) =
    has ∙ ap (λ o. then (head_of_inode o)) (stands.heads n (file_of t n) there).inode ∙ same ∙ ap (λ (k : ℕ). Some (record { size = k; kind = File; links = links_of g t n; parent = 0 })) (sym long) in
    record { entries = entries_of_inode (w.inodes n); inode = whole_with_head (w.inodes n) _ now }

module _ (g : Request) (c v w : View) (t : Tree) (n at : ℕ) (new : List ℕ) (geometry : IsGeometry g) (view : IsView g v) (view_w : IsView g w) (stands : StandsFor g v t) (tree : IsTree g t)
    (there : t n ≡ Some (file_of t n)) (rules : IsFile g (text_of t n) (flags_of t n)) (after : IsTree g (written g t n at new).tree)
    (some : 0 < length new) (end : at + length new ≤ max_size_of g) (listed : IsListed g t (written g t n at new))
    (was : IsWritten g c v w n at new (had_by g t n)) (has_head : HasHeadOf v w n (λ head. grown head (at + length new))) where
  abbrev text : List ℕ
  text = text_of t n

  abbrev flags : List Bool
  flags = flags_of t n

  abbrev under : List ℕ
  under = blocks_under g at (length new)

  abbrev now_text : List ℕ
  now_text = put_at text at new

  abbrev now_flags : List Bool
  now_flags = flags_for g (max (length text) (at + length new)) (λ i. is_marked flags i || is_touched g at (length new) i)

  -- the data blocks that are written are those of the run from the first byte to the last
  same_run : (p : Position) → has (map (data_at n) under) p ≡ has (map (data_at n) (blocks_touched g at (length new))) p
  same_run =
      let size = some_bytes g (some_pointers_fit g geometry) in
      let low : at / g.block_size ≤ (at + length new - 1) / g.block_size = div_mono g.block_size at (at + length new - 1) size (omega arith) in
      bytes_run g n at (length new) (at / g.block_size) ((at + length new - 1) / g.block_size + 1 - at / g.block_size) size some end refl (omega arith)

  run_index : (i : ℕ) → has_index under i ≡ has_index (blocks_touched g at (length new)) i
  run_index i = sym (mapped n under i) ∙ same_run (data_at n i) ∙ mapped n (blocks_touched g at (length new)) i

  and_true : (b : Bool) → (b && true) ≡ b
  and_true true = refl
  and_true false = refl

  same_blocks : (i : ℕ) → has_index (under ++ had_by g t n) i ≡ has_index (indices_of g (file now_text now_flags)) i
  same_blocks i =
      lists-append under (had_by g t n) i
      ∙ (λ k. run_index i k || sym (and_true (has_index (had_by g t n) i)) k)
      ∙ sym (file_lists g t n now_text now_flags (blocks_touched g at (length new)) [] 3 tree after there listed i)

  whole : is_whole (v.inodes n) ≡ true
  whole = ap is_whole (stands.heads n (file_of t n) there).inode

  head_now : HasHead w n (head_with g (links_of g t n) (file now_text now_flags))
  head_now = told_head g v w t n (max (length text) (at + length new)) (λ head. grown head (at + length new)) now_text now_flags stands there (put_length text at new) refl has_head

  whole_now : is_whole (w.inodes n) ≡ true
  whole_now = ap is_whole head_now.inode

  holds_now : HoldsNode g w n (file now_text now_flags)
  holds_now =
      file_written g v n text flags (entries_fit g geometry) (some_pointers_fit g geometry) (some_bytes g (some_pointers_fit g geometry)) view whole (stands.nodes n (file_of t n) there)
      (absent_zeros g text flags rules) c w at new view_w whole_now was now_text now_flags (put_bytes text at new) same_blocks

  places : HasPlaces g v n (had_by g t n)
  places = (stands.nodes n (file_of t n) there).places

  changed : NodeChanged g v w n (had_by g t n) (indices_of g (file now_text now_flags))
  changed = changed_same g v w n (had_by g t n) (under ++ had_by g t n) (had_by g t n) (indices_of g (file now_text now_flags)) (λ i. refl) same_blocks
      (rewritten_changed g c v w n under (had_by g t n) view (under_in_range g n at (length new)) places was.rewritten)

  dirtied : NodeDirtied g c v w n (had_by g t n) (indices_of g (file now_text now_flags)) under []
  dirtied = dirtied_same g c v w n (had_by g t n) (under ++ had_by g t n) under [] (had_by g t n) (indices_of g (file now_text now_flags)) under []
      (λ i. refl) same_blocks (λ i. refl) (λ i. refl)
      (rewritten_dirty g c v w n under (had_by g t n) view (under_in_range g n at (length new)) places was.rewritten)

  pub written_edited : IsEdited g c v w t (written g t n at new)
  written_edited = record {
    stands = file_stands g c v w t n now_text now_flags under [] view stands there (record { head = head_now; holds = holds_now }) changed dirtied;
    dirtied = tree_same g c v w t (with_node t n (Some (file now_text now_flags))) (map (data_at n) under) [] (map (data_at n) (blocks_touched g at (length new))) [] same_run (λ p. refl)
        (file_dirtied g c v w t n now_text now_flags under [] view stands there (record { head = head_now; holds = holds_now }) changed dirtied);
  }
