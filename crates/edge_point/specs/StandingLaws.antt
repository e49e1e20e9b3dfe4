-- What holds of every store has one proof alone.
use Rattle.std.specs.Prelude.{◌≡◌, ◌⊎◌, ◌<◌, ℕ, List}
use Rattle.std.proofs.Common.{arith, inl, inr, ap}
use Rattle.std.proofs.Props.{props}
use Rattle.edge_disk.specs.declared.disk.Disk.{Ghosts}
use Rattle.edge_anchor.specs.Anchor.{Anchor, HangsOn, IsRoot}
use Rattle.edge_imap.specs.Bitmaps.{Bitmaps, IsTied}
use Rattle.edge_point.specs.declared.parts.Parts.{Parts}
use Rattle.edge_point.specs.Standing.{IsPoint, IsTold}

pub loses-prop : (a b p : ℕ) → IsProp ((a < b) ⊎ ((a ≡ b) × (p ≡ 1)))
loses-prop a b p (inl x) (inl y) = ap inl (let h : IsProp (a < b) = hlevel props in h x y)
loses-prop a b p (inl x) (inr y) = absurd (let e = y.0 in omega arith)
loses-prop a b p (inr x) (inl y) = absurd (let e = x.0 in omega arith)
loses-prop a b p (inr x) (inr y) = ap inr (let h : IsProp ((a ≡ b) × (p ≡ 1)) = hlevel props in h x y)

pub IsRoot-prop : (a : Anchor) (b : List ℕ) → IsProp (IsRoot a b)
IsRoot-prop a b = hlevel props

pub HangsOn-prop : (a : Anchor) (content : ℕ → List ℕ) → IsProp (HangsOn a content)
HangsOn-prop a content = hlevel props

pub IsTied-prop : (m : Bitmaps) (content : ℕ → List ℕ) → IsProp (IsTied m content)
IsTied-prop m content = hlevel props

pub IsTold-prop : {D : Type 0} (g : Ghosts D) (p : Parts D) → IsProp (IsTold g p)
IsTold-prop g p = hlevel (props, loses-prop, IsRoot-prop, HangsOn-prop, IsTied-prop)

pub IsPoint-prop : {D : Type 0} (g : Ghosts D) (p : Parts D) → IsProp (IsPoint g p)
IsPoint-prop g p = hlevel (props, IsTold-prop)
