-- A chain of tests, each of which answers its fault: it answers Ok exactly where each test passes.
use Rattle.std.proofs.Common.{◌≡◌, Bool, true, false, not, cond, Result, Ok, Err, IfOk, refl}
use Rattle.edge_base.specs.declared.node.NodeFault.{NodeFault}

pub passed : {T : Type 0} (test : Bool) (fault : NodeFault) (rest : Result T NodeFault) (x : T) → cond (not test) (Err fault) rest ≡ Ok x → (test ≡ true) × (rest ≡ Ok x)
passed true fault rest x e = (refl, e)
passed false fault rest x e = absurd (cc)

pub held : {T : Type 0} (broken : Bool) (fault : NodeFault) (rest : Result T NodeFault) (x : T) → cond broken (Err fault) rest ≡ Ok x → (broken ≡ false) × (rest ≡ Ok x)
held false fault rest x e = (refl, e)
held true fault rest x e = absurd (cc)

pub passes : {T : Type 0} (test : Bool) (fault : NodeFault) (rest answer : Result T NodeFault) → test ≡ true → rest ≡ answer → cond (not test) (Err fault) rest ≡ answer
passes true fault rest answer t e = e
passes false fault rest answer t e = absurd (cc)

pub holds : {T : Type 0} (broken : Bool) (fault : NodeFault) (rest answer : Result T NodeFault) → broken ≡ false → rest ≡ answer → cond broken (Err fault) rest ≡ answer
holds false fault rest answer t e = e
holds true fault rest answer t e = absurd (cc)

pub each_ok : {T : Type 0} (r : Result T NodeFault) (P : T → Type 0) → ((x : T) → r ≡ Ok x → P x) → IfOk r P
each_ok (Ok x) P all = all x refl
each_ok (Err e) P all = tt
