-- A node of which nothing is left: cutting it needs no block, and no damage of it is told.
use Rattle.std.proofs.Common.{◌≡◌, ◌∙◌, ℕ, ◌≤◌, Bool, true, false, cond, refl, sym, ap, arith, Option, Some, None}
use Rattle.std.specs.Prelude.{Result, Ok, Err, nat_lt}
use Rattle.std.proofs.lemmas.Bool.Decides.{nat_tests}
use Rattle.edge_base.specs.declared.damage.Damage.{Damage}
use Rattle.edge_base.specs.declared.geometry.Request.{Request}
use Rattle.edge_base.specs.declared.node.Head.{Head}
use Rattle.edge_base.specs.layout.Places.{entries_of, max_blocks_of, way_of}
use Rattle.edge_shape.specs.Where.{cut_at, cut_need, cut_of_way, need_of}
use Rattle.edge_shape.specs.declared.cut.Cut.TheVariants.{Whole}
use Rattle.edge_store.specs.declared.fault.StoreFault.{StoreFault}
use Rattle.edge_store.specs.declared.fault.StoreFault.TheVariants.{Damaged}
use Rattle.edge_store.specs.Calls.{Meets}
use Rattle.edge_store.specs.Damages.{damage_of_inode}
use Rattle.edge_store.specs.State.{StoreState}
use Rattle.edge_store.specs.View.{View, Inode, head_of_inode, whole, broken}
use Rattle.edge_volume.specs.Parts.{IsOfNoDamage}
use Rattle.edge_volume.specs.Stopped.{fault_in}

above_none : (n : ℕ) → 1 ≤ n → nat_lt 0 n ≡ true
above_none n some = grind (arith, nat_tests)

pub cut_needs_none : (g : Request) (c v : View) (n : ℕ) → 1 ≤ g.direct → cut_need g c v n 0 ≡ 0
unfolding cut_at
cut_needs_none g c v n some = by (nat_lt 0 (max_blocks_of g))
  where
    direct : nat_lt 0 g.direct ≡ true
    direct = above_none g.direct some

    by : (b : Bool) → need_of c v n (cond b (cut_of_way g v n (way_of g 0)) (Whole (entries_of g))) ≡ 0
    by true = rw direct refl
    by false = refl

-- an inode that has a head is not damaged
pub headed_undamaged : (o : Option Inode) (head : Head) → head_of_inode o ≡ Some head → damage_of_inode o ≡ None
headed_undamaged None head is = absurd (let wrong : None ≡ Some head = is in cc)
headed_undamaged (Some (whole h entries)) head is = refl
headed_undamaged (Some (broken d)) head is = absurd (let wrong : None ≡ Some head = is in cc)

pub meets_none : {T : Type 0} (met : Option Damage) (old new : StoreState) (r : Result T StoreFault) → Meets met old new r → met ≡ None → IsOfNoDamage (fault_in r)
meets_none met old new (Ok x) meets none d e = absurd (let wrong : None ≡ Some (Damaged d) = e in cc)
meets_none met old new (Err fault) meets none d e =
    absurd (let some = meets.that d (ap Err (let same : Some fault ≡ Some (Damaged d) = e in cc)) in let wrong : None ≡ Some d = sym none ∙ some in cc)
