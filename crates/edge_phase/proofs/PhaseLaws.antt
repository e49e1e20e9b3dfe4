-- What the phases of a point leave, over media.
use Rattle.std.proofs.Common.{◌≡◌, inl, inr, ⊎_elim, ℕ, ◌+◌, ◌<◌, ◌≤◌, true, false, List, ◌++◌, length, append-nil, None, refl, sym, ap, ◌∙◌, subst, arith}
use Rattle.std.proofs.lemmas.List.{drop_all}
use Rattle.edge_base.specs.declared.geometry.Request.{Request}
use Rattle.edge_base.specs.declared.node.Metaroot.{Metaroot}
use Rattle.edge_base.specs.layout.Places.{IsWithinLimits}
use Rattle.edge_base.specs.layout.Spelling.{SpellsMetaroot, metaroot_in}
use Rattle.edge_nodes.proofs.MetarootLaws.{metaroot_in-spelled}
use Rattle.edge_cache.specs.Blocks.{changed_by}
use Rattle.edge_disk.specs.State.{EachCut}
use Rattle.edge_store.specs.View.{View}
use Rattle.edge_anchor.specs.Anchor.{Anchor, HasBit, HangsOn, IsOn, IsRoot, to_used, geometry_of, spare_of, view_at}
use Rattle.edge_anchor.specs.Medium.{Medium, Follows, IsCommitted, IsTurning, none_given, one_given}
use Rattle.edge_anchor.specs.Opens.{OpensAs}
use Rattle.edge_anchor.proofs.CutLaws.{SureIsShown, committed_alone, turning_either}
use Rattle.edge_anchor.proofs.HangLaws.{hangs_same, within_limits}
use Rattle.edge_anchor.proofs.KeepLaws.{committed_none, turning_root}
use Rattle.edge_anchor.proofs.PointLaws.{begins, ends}
use Rattle.edge_anchor.proofs.ViewLaws.{view_stays}
use Rattle.edge_phase.specs.Phases.{OpensAsEither, next_of}

-- ---- bytes

-- a block that is written whole has these bytes
pub whole_write : (bytes c : List ℕ) → length c ≡ length bytes → changed_by 0 bytes false c ≡ bytes
whole_write bytes c same = ap (λ x. bytes ++ x) (drop_all (0 + length bytes) c (omega arith)) ∙ append-nil bytes

-- bytes that spell the next metaroot are its
pub spells_next : (a : Anchor) (g : Request) (root : Metaroot) (bits bytes : List ℕ) (content : ℕ → List ℕ) → geometry_of a ≡ g
    → SpellsMetaroot g root bits bytes → IsRoot (next_of a root bits content) bytes
spells_next a g root bits bytes content same spells = record {
  spells = ap (λ (x : Request). metaroot_in x bytes) same ∙ metaroot_in-spelled g bytes root bits spells;
  roots = spells.bitmap;
}

-- ---- what a cut leaves

view_same : (a : Anchor) (s t : ℕ → List ℕ) → IsWithinLimits (geometry_of a) → ((b : ℕ) → HasBit (geometry_of a) b → a.used b ≡ true → t b ≡ s b)
    → view_at a t ≡ view_at a s
view_same a s t limits same = view_stays (geometry_of a) a.used a.used s t limits (λ b has. record { same_use = refl; bytes = same b has })

-- blocks from the fourth on for which nothing waits show this content
abbrev pub IdleShow : (ℕ → List ℕ) → Medium → Type 0
IdleShow content m = (k : ℕ) → 3 ≤ k → m.waits k ≡ None → m.disk.shown k ≡ content k

behind : (g : Request) (b : ℕ) → HasBit g b → 3 ≤ b
behind g b has = let from = has.from in omega arith

module _ (a b : Anchor) (content : ℕ → List ℕ) (m : Medium) (law : SureIsShown m) (idle : IdleShow content m) (on : IsOn m.disk.origin a) where
  pub left_before : IsCommitted a m → EachCut m.disk (OpensAsEither a b content)
  left_before is image permitted plain =
      let view : view_at a m.disk.shown ≡ view_at a content = view_same a content m.disk.shown (within_limits a m.disk.shown is.hangs)
      (λ k has used. idle k (behind (geometry_of a) k has) (is.needed.idle k (inr (to_used has used)))) in
      inl (subst (λ (v : View). OpensAs a v image) view (committed_alone m law image permitted plain a on is))

  pub left_inside : IsTurning a b m → EachCut m.disk (OpensAsEither a b content)
  left_inside is image permitted plain =
      let last : view_at a m.disk.shown ≡ view_at a content = view_same a content m.disk.shown (within_limits a m.disk.shown is.hangs)
      (λ k has used. idle k (behind (geometry_of a) k has) (is.needed.idle k (inl (inr (to_used has used))))) in
      let next : view_at b m.disk.shown ≡ view_at b content = view_same b content m.disk.shown (within_limits b m.disk.shown is.hangs_next)
      (λ k has used. idle k (behind (geometry_of b) k has) (is.needed.idle k (inr (to_used has used)))) in
      ⊎_elim (λ opens. inl (subst (λ (v : View). OpensAs a v image) last opens)) (λ opens. inr (subst (λ (v : View). OpensAs b v image) next opens))
      (turning_either m law image permitted plain a b on is)

-- ---- after the first flush

-- nothing waits, so what is shown is the content
pub begun : (a : Anchor) (root : Metaroot) (roots : List ℕ) (content : ℕ → List ℕ) (m n : Medium) → IsOn n.disk.origin a → root.sequence ≡ a.root.sequence + 1
    → HangsOn (next_of a root roots content) content → ((k : ℕ) → n.disk.shown k ≡ content k) → ((k : ℕ) → n.waits k ≡ None)
    → ((k : ℕ) → k < n.disk.origin.blocks → n.disk.is_sure k) → Follows none_given m n → IsCommitted a m → IsTurning a (next_of a root roots content) n
begun a root roots content m n on sequence hangs same clean sure follows is =
    let b = next_of a root roots content in
    begins n a b on clean sure (record { master = refl; place = refl; sequence = sequence }) (hangs_same b content n.disk.shown (λ k led. same k) hangs)
    (committed_none m n a follows is)

-- what a write of the metaroot to its place leaves
pub turned : (a b : Anchor) (place : ℕ) (bytes : List ℕ) (m n : Medium) → IsOn m.disk.origin a → spare_of a ≡ place → IsRoot b bytes
    → Follows (one_given place bytes) m n → IsTurning a b m → IsTurning a b n
turned a b place bytes m n on spare root follows is =
    turning_root m n a b bytes on root (subst (λ (p : ℕ). Follows (one_given p bytes) m n) (sym spare) follows) is

-- ---- after the second

pub taken : (a b : Anchor) (place : ℕ) (bytes : List ℕ) (m : Medium) → SureIsShown m → IsOn m.disk.origin a → spare_of a ≡ place → IsRoot b bytes
    → m.disk.shown place ≡ bytes
    → ((k : ℕ) → m.waits k ≡ None) → ((k : ℕ) → k < m.disk.origin.blocks → m.disk.is_sure k) → IsTurning a b m → IsCommitted b m
taken a b place bytes m law on spare root written clean sure is =
    ends m a b on clean law sure (subst (λ (p : ℕ). IsRoot b (m.disk.shown p)) (sym spare) (subst (IsRoot b) (sym written) root)) is
