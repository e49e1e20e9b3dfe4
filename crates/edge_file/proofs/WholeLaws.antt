-- A data block that is written whole: what it held is of no account.
use Rattle.std.proofs.Common.{◌≡◌, ◌≢◌, ℕ, ◌+◌, ◌≤◌, inl, inr, List, ◌++◌, length, Option, Some, None, take, refl, sym, ap, ◌∙◌, arith}
use Rattle.std.specs.Prelude.{nat_eq}
use Rattle.std.specs.Map.{update}
use Rattle.std.proofs.lemmas.Bool.{cases_eq}
use Rattle.std.proofs.lemmas.List.{drop_all}
use Rattle.edge_base.specs.declared.form.Form.TheVariants.{Plain}
use Rattle.edge_base.specs.declared.geometry.Request.{Request}
use Rattle.edge_store.specs.Effects.{BytesSet, put_in}
use Rattle.edge_store.specs.View.{View, IsView, Block, bytes, bytes_in, content, content_at, with_block}
use Rattle.edge_store.proofs.ViewLaws.{with_block_here, with_block_apart}

-- no block has more bytes than the block size
most_bytes : (g : Request) (v : View) (b : ℕ) → IsView g v → length (bytes_in (content_at v Plain b)) ≤ g.block_size
most_bytes g v b view = by (v.blocks b) refl
  where
    by : (o : Option Block) → v.blocks b ≡ o → length (bytes_in (content Plain o)) ≤ g.block_size
    by None e = omega arith
    by (Some block) e = let full : length block.bytes ≡ g.block_size = view.full_blocks b block e in omega arith

put_whole : (old other new : List ℕ) → length old ≤ length new → length other ≤ length new → put_in old 0 new ≡ put_in other 0 new
put_whole old other new low low_other = ap (λ l. take 0 old ++ new ++ l) (drop_all (0 + length new) old (omega arith) ∙ sym (drop_all (0 + length new) other (omega arith)))

-- views that differ in one block are alike with another one there
alike_with : (u m : View) (b : ℕ) (x : Option Block) → m.inodes ≡ u.inodes → ((k : ℕ) → k ≢ b → m.blocks k ≡ u.blocks k) → with_block m b x ≡ with_block u b x
alike_with u m b x inodes others = λ t. record { inodes = inodes t; blocks = λ k. at k t }
  where
    at : (k : ℕ) → update nat_eq m.blocks b x k ≡ update nat_eq u.blocks b x k
    at k = elim (cases_eq k b) [
      | inl is ↦ ap (with_block m b x).blocks is ∙ with_block_here m b x ∙ sym (with_block_here u b x) ∙ ap (with_block u b x).blocks (sym is)
      | inr far ↦ with_block_apart m b x k far ∙ others k far ∙ sym (with_block_apart u b x k far)
    ]

pub whole_put : (g : Request) (u m w : View) (b : ℕ) (new : List ℕ) → IsView g u → IsView g m → length new ≡ g.block_size → m.inodes ≡ u.inodes
    → ((k : ℕ) → k ≢ b → m.blocks k ≡ u.blocks k) → BytesSet m w b 0 new → BytesSet u w b 0 new
whole_put g u m w b new view_u view_m whole inodes others set =
    let most_u = most_bytes g u b view_u in
    let most_m = most_bytes g m b view_m in
    record {
      working = set.working ∙ alike_with u m b (w.blocks b) inodes others;
      content = set.content ∙ ap bytes (put_whole (bytes_in (content_at m Plain b)) (bytes_in (content_at u Plain b)) new (omega arith) (omega arith));
    }
