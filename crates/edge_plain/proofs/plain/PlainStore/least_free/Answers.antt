use Rattle.std.proofs.Common.{◌≡◌, ℕ, false, sym, ◌∙◌, subst, arith, inl, inr}
use Rattle.std.proofs.lemmas.Bool.{cases_lt}
use Rattle.edge_plain.specs.KeptView.{view_of}
use Rattle.edge_plain.proofs.CountLaws.{no_free}
use Rattle.edge_plain.proofs.plain.PlainStore.least_free.Goals as goal
use Rattle.edge_store.specs.View.{is_free}

pub loop-b-preserved : goal.loop-b-preserved
loop-b-preserved c k low high =
    let s = c.args.self.now in
    elim (cases_lt k c.loop-b.b) [
      | inl less ↦ c.loop-b.invariant k low less
      | inr past ↦
          let e : k ≡ c.loop-b.b = omega arith in
          subst (λ (j : ℕ). is_free (view_of s.committed) (view_of s.working) j ≡ false) (sym e) (sym c.is_free.ensures ∙ c.if-is_free.false)
    ]

pub returns-clause-fresh : goal.returns-clause-fresh
returns-clause-fresh c =
    let s = c.args.self.now in
    let none = no_free s.working.geometry (view_of s.committed) (view_of s.working) (λ k low high. c.loop-b.invariant k low (omega (arith, c.first_allocable-first.ensures, c.allocable.ensures.count))) in
    absurd (omega (arith, none, c.requires))
