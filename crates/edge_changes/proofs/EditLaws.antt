-- An edit that sets one file.
use Rattle.std.proofs.Common.{◌≡◌, ℕ, ◌==◌, ◌&&◌, ◌||◌, not, Bool, true, false, cond, List, [], map, refl, sym, ap, ◌∙◌, subst, is_some, Option, Some, eqb-true, unwrap_or, inl, inr}
use Rattle.std.proofs.lemmas.Bool.{cases_eq}
use Rattle.edge_base.specs.declared.geometry.Request.{Request}
use Rattle.edge_base.specs.tree.Nodes.{Node, file, indices_of}
use Rattle.edge_base.specs.tree.Positions.{data_at}
use Rattle.edge_store.specs.Changed.{has_index, NodeChanged, NodeDirtied}
use Rattle.edge_store.specs.View.{View, IsView}
use Rattle.edge_model.specs.Files.{content_of, present_of}
use Rattle.edge_model.specs.Rules.{IsTree}
use Rattle.edge_model.specs.Tree.{Tree, node_at, is_directory, is_directory_node, slots_at, slots_of_node, links_of, with_node}
use Rattle.edge_image.specs.Opens.{StandsFor}
use Rattle.edge_steps.specs.Listed.{IsListed}
use Rattle.edge_steps.proofs.NamingLaws.{set_names}
use Rattle.edge_steps.proofs.NodeLaws.{node_set, file_is, is_a_file}
use Rattle.edge_stands.specs.Dirtied.{TreeDirtied}
use Rattle.edge_stands.specs.Stands.{NodeStands, NodeBecomes, StandsWith, indices_at, with_links}
use Rattle.edge_stands.proofs.BecomeLaws.{tree_number, one_node, one_node_dirtied}
use Rattle.edge_stands.proofs.NodeLaws.{with_links_of, agreed_links}
use Rattle.edge_changes.proofs.MemberLaws.{mapped, tree_index}

-- the file that a number has: its bytes, the flags of its blocks, and which are there
abbrev pub text_of : Tree → ℕ → List ℕ
text_of t n = content_of (node_at t n)

abbrev pub flags_of : Tree → ℕ → List Bool
flags_of t n = present_of (node_at t n)

abbrev pub file_of : Tree → ℕ → Node
file_of t n = file (text_of t n) (flags_of t n)

abbrev pub had_by : Request → Tree → ℕ → List ℕ
had_by g t n = indices_of g (file_of t n)

pub file_there : (t : Tree) (n : ℕ) → is_some (t n) ≡ true → is_directory t n ≡ false → t n ≡ Some (file_of t n)
file_there t n there kind =
    let was = file_is t n there kind in
    was.2 ∙ sym (ap (λ (o : Option Node). Some (file (content_of (unwrap_or o (file [] []))) (present_of (unwrap_or o (file [] []))))) was.2)

-- ---- names and links

module _ (g : Request) (t : Tree) (n : ℕ) (content : List ℕ) (present : List Bool) (there : t n ≡ Some (file_of t n)) where
  abbrev then : Tree
  then = with_node t n (Some (file content present))

  slots_stay : slots_at then n ≡ slots_at t n
  slots_stay =
      ap (λ (o : Option Node). slots_of_node (unwrap_or o (file [] []))) (node_set t n (Some (file content present))).here
      ∙ sym (ap (λ (o : Option Node). slots_of_node (unwrap_or o (file [] []))) there)

  kinds_stay : (x : ℕ) → is_directory then x ≡ is_directory t x
  kinds_stay x = elim (cases_eq x n) [
    | inl same ↦
        ap (is_directory then) same ∙ is_a_file then n content present (node_set t n (Some (file content present))).here
        ∙ sym (ap (is_directory t) same ∙ is_a_file t n _ _ there)
    | inr other ↦ ap (λ (o : Option Node). is_directory_node (unwrap_or o (file [] []))) ((node_set t n (Some (file content present))).others x other)
  ]

  links_stay : (x : ℕ) → links_of g then x ≡ links_of g t x
  links_stay x = λ i. cond (kinds_stay x i) 1 (set_names g t n (Some (file content present)) x slots_stay i)

  told_links : (x : ℕ) → with_links (links_of g t) n (links_of g t n) x ≡ links_of g then x
  told_links x = by (x == n) refl ∙ sym (links_stay x)
    where
      by : (b : Bool) → (x == n) ≡ b → cond b (links_of g t n) (links_of g t x) ≡ links_of g t x
      by true same = ap (links_of g t) (sym (eqb-true x n same))
      by false other = refl

-- ---- the change

module _ (g : Request) (c v w : View) (t : Tree) (n : ℕ) (content : List ℕ) (present : List Bool) (writes removes : List ℕ) (view : IsView g v) (stands : StandsFor g v t)
    (there : t n ≡ Some (file_of t n)) (now : NodeStands g w n (file content present) (links_of g t n))
    (changed : NodeChanged g v w n (had_by g t n) (indices_of g (file content present)))
    (dirtied : NodeDirtied g c v w n (had_by g t n) (indices_of g (file content present)) writes removes) where
  all : StandsWith g v t (links_of g t)
  all = (with_links_of g v t).0 stands

  becomes : NodeBecomes g v w t n (Some (file content present)) (links_of g t n)
  becomes = record { stands = now; changed = subst (λ (o : Option Node). NodeChanged g v w n (indices_at g o) (indices_of g (file content present))) (sym there) changed }

  pub file_stands : StandsFor g w (with_node t n (Some (file content present)))
  file_stands =
      let number = tree_number g v t (links_of g t) view all n (ap is_some there) in
      agreed_links g w (with_node t n (Some (file content present))) _ (one_node g v w t (links_of g t) n _ (links_of g t n) view number all becomes)
      (λ x some. told_links g t n content present there x)

  pub file_dirtied : TreeDirtied g c v w t (with_node t n (Some (file content present))) (map (data_at n) writes) (map (data_at n) removes)
  file_dirtied =
      let number = tree_number g v t (links_of g t) view all n (ap is_some there) in
      one_node_dirtied g c v w t (links_of g t) n _ (links_of g t n) writes removes number all becomes
      (subst (λ (o : Option Node). NodeDirtied g c v w n (indices_at g o) (indices_of g (file content present)) writes removes) (sym there) dirtied)

-- ---- the data blocks

-- those after an edit that sets one file: those written, and those that were there and are not removed
pub file_lists : (g : Request) (t : Tree) (n : ℕ) (content : List ℕ) (present : List Bool) (writes removes : List ℕ) (reserve : ℕ) → IsTree g t → IsTree g (with_node t n (Some (file content present)))
    → t n ≡ Some (file_of t n)
    → IsListed g t (record { tree = with_node t n (Some (file content present)); writes = map (data_at n) writes; removes = map (data_at n) removes; reserve = reserve })
    → (i : ℕ) → has_index (indices_of g (file content present)) i ≡ (has_index writes i || (has_index (had_by g t n) i && not (has_index removes i)))
file_lists g t n content present writes removes reserve tree after there listed i =
    sym (tree_index g (with_node t n (Some (file content present))) n (file content present) after (node_set t n (Some (file content present))).here i)
    ∙ listed n i
    ∙ (λ k. mapped n writes i k || (tree_index g t n (file_of t n) tree there i k && not (mapped n removes i k)))
