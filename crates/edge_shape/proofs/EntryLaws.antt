-- The position that an entry leads to.
use Rattle.std.proofs.Common.{◌≡◌, ℕ, ◌+◌, ◌-◌, ◌<◌, true, cond, ltb, refl, sym, ap, ◌∙◌, arith, inl, inr}
use Rattle.std.proofs.lemmas.Bool.{cases_lt, lt-ltb, le-ltb, cond-true, cond-false}
use Rattle.edge_base.specs.declared.form.Form.{Form}
use Rattle.edge_base.specs.declared.form.Form.TheVariants.{Plain, Indirect, Double}
use Rattle.edge_base.specs.declared.geometry.Request.{Request}
use Rattle.edge_store.specs.View.{View}
use Rattle.edge_store.specs.Placed.{entry_at, double_block, indirect_block, data_block, block_at}
use Rattle.edge_moves.specs.Sound.{numbered}
use Rattle.edge_store.specs.Damages.{form_of_entry}
use Rattle.edge_shape.specs.Gone.{Pointers, gone}

-- the position that an entry leads to
pub record EntryPosition (g : Request) (v : View) (n e : ℕ) : Type 0 where
  pub form : Form
  pub index : ℕ
  pub is_form : form_of_entry g e ≡ form
  pub block : entry_at v n e ≡ block_at g v (numbered n form index)
  pub direct : form ≡ Plain → (index ≡ e) × (e < g.direct)
  pub single : form ≡ Indirect → (g.direct + index ≡ e) × (index < g.indirect)
  pub double : form ≡ Double → g.direct + g.indirect + index ≡ e
  pub gone_as : (taken : Pointers) → gone g taken form index ≡ taken.entry e

pub entry_position : (g : Request) (v : View) (n e : ℕ) → EntryPosition g v n e
unfolding indirect_block data_block double_block
entry_position g v n e = elim (cases_lt e g.direct) [
  | inl low ↦
      let t = lt-ltb e g.direct low in
      record {
        form = Plain;
        index = e;
        is_form = cond-true (ltb e g.direct) Plain (cond (ltb e (g.direct + g.indirect)) Indirect Double) t;
        block = sym (cond-true (ltb e g.direct) _ _ t);
        direct = λ f. (refl, low);
        single = λ (f : Plain ≡ Indirect). absurd (cc);
        double = λ (f : Plain ≡ Double). absurd (cc);
        gone_as = λ taken. cond-true (ltb e g.direct) _ _ t;
      }
  | inr past ↦ elim (cases_lt e (g.direct + g.indirect)) [
    | inl low ↦
        let t : ltb (e - g.direct) g.indirect ≡ true = lt-ltb (e - g.direct) g.indirect (omega arith) in
        let is : g.direct + (e - g.direct) ≡ e = omega arith in
        record {
          form = Indirect;
          index = e - g.direct;
          is_form = cond-false (ltb e g.direct) Plain _ (le-ltb e g.direct past) ∙ cond-true (ltb e (g.direct + g.indirect)) Indirect Double (lt-ltb e (g.direct + g.indirect) low);
          block = sym (cond-true (ltb (e - g.direct) g.indirect) _ _ t ∙ ap (entry_at v n) is);
          direct = λ (f : Indirect ≡ Plain). absurd (cc);
          single = λ f. (is, omega arith);
          double = λ (f : Indirect ≡ Double). absurd (cc);
          gone_as = λ taken. cond-true (ltb (e - g.direct) g.indirect) _ _ t ∙ ap taken.entry is;
        }
    | inr behind ↦
        let is : g.direct + g.indirect + (e - (g.direct + g.indirect)) ≡ e = omega arith in
        record {
          form = Double;
          index = e - (g.direct + g.indirect);
          is_form = cond-false (ltb e g.direct) Plain _ (le-ltb e g.direct past) ∙ cond-false (ltb e (g.direct + g.indirect)) Indirect Double (le-ltb e (g.direct + g.indirect) behind);
          block = ap (entry_at v n) (sym is);
          direct = λ (f : Double ≡ Plain). absurd (cc);
          single = λ (f : Double ≡ Indirect). absurd (cc);
          double = λ f. is;
          gone_as = λ taken. ap taken.entry is;
        }
  ]
]
