use Rattle.std.proofs.Common.{◌≡◌, ◌∙◌, ℕ, true, replicate, Option, Some, None, ap, subst}
use Rattle.std.specs.Prelude.{IfSome}
use Rattle.edge_base.specs.declared.geometry.Request.{Request}
use Rattle.edge_base.specs.layout.Places.{entries_of}
use Rattle.edge_store.specs.State.{IsNumber, Told}
use Rattle.edge_store.specs.View.{is_number}
use Rattle.edge_point.specs.Changing.{IsFirstFree, WillSpell}
use Rattle.edge_point.specs.Seen.{state_of}
use Rattle.edge_point.proofs.FindLaws.{err_is}
use Rattle.edge_point.proofs.FirstLaws.{answered_as}
use Rattle.edge_point.proofs.FoundLaws.{called_err, called_ok}
use Rattle.edge_point.proofs.MakeLaws.{blank_free, blank_geometry, blank_live, blank_point, is_made, made_calls, made_keeps, made_places, told_blank}
use Rattle.edge_point.proofs.PlacedLaws.{never_as}
use Rattle.edge_point.proofs.make.new_inode.Goals as goal

-- ---- a fault, or none

pub returns-in_err-found-clause-called : goal.returns-in_err-found-clause-called
returns-in_err-found-clause-called g c =
    let d = g.D.Disk in
    called_err (state_of d c.args.p.now) (state_of d c.find_number.new.p) c.find_number.result _ c.in_err-found.field-0.0 c.find_number.ensures.called c.in_err-found.was
    (err_is _ _ c.from_residual.ensures)

pub returns-in_err-found-clause-undamaged : goal.returns-in_err-found-clause-undamaged
returns-in_err-found-clause-undamaged g c = λ told.
    never_as c.find_number.result _ c.in_err-found.field-0.0 c.in_err-found.was (err_is _ _ c.from_residual.ensures) (c.find_number.ensures.undamaged told)

pub returns-in-None-clause-called : goal.returns-in-None-clause-called
returns-in-None-clause-called g c =
    let d = g.D.Disk in
    called_ok (state_of d c.args.p.now) (state_of d c.find_number.new.p) c.in_ok-found.found None c.in_ok-found.ensures.called

pub returns-in-None-clause-places : goal.returns-in-None-clause-places
returns-in-None-clause-places g c = c.find_number.ensures.working.places

pub returns-in-None-clause-made : goal.returns-in-None-clause-made
returns-in-None-clause-made g c = λ told. (
  subst (IsFirstFree c.args.p.now.master.geometry (state_of g.D.Disk c.args.p.now).working) c.in-None.is (c.in_ok-found.ensures.found told),
  c.find_number.ensures.working.working,
)

-- ---- a number was found

pub blank_inode-requires-clause-block : goal.blank_inode-requires-clause-block
blank_inode-requires-clause-block g c = c.find_number.ensures.stands.block

pub make_inode-requires-clause-stands : goal.make_inode-requires-clause-stands
make_inode-requires-clause-stands g c =
    let d = g.D.Disk in
    let p = c.args.p.now in
    let m = c.find_number.new.p in
    let e = c.blank_inode.new.p in
    let n = c.in-Some.n in
    let r = p.master.geometry in
    let called = c.in_ok-found.ensures.called in
    let law = g.met.D.Disk.sure_is_shown e.cache.disk in
    let number : is_number r n ≡ true = subst (λ (x : Option ℕ). IfSome x (λ y. is_number r y ≡ true)) c.in-Some.is c.in_ok-found.ensures.number in
    let first : Told (state_of d p) → IsFirstFree r (state_of d p).working (Some n) = λ told.
    subst (IsFirstFree r (state_of d p).working) c.in-Some.is (c.in_ok-found.ensures.found told) in
    blank_point d p m e c.find_number.ensures.stands c.in_ok-found.found called c.find_number.ensures.working c.find_number.ensures.geometry c.blank_inode.ensures.rest c.blank_inode.ensures.imap c.blank_inode.ensures.cache law

pub make_inode-requires-clause-live : goal.make_inode-requires-clause-live
make_inode-requires-clause-live g c =
    let d = g.D.Disk in
    let p = c.args.p.now in
    let m = c.find_number.new.p in
    let e = c.blank_inode.new.p in
    let n = c.in-Some.n in
    let r = p.master.geometry in
    let called = c.in_ok-found.ensures.called in
    let law = g.met.D.Disk.sure_is_shown e.cache.disk in
    let number : is_number r n ≡ true = subst (λ (x : Option ℕ). IfSome x (λ y. is_number r y ≡ true)) c.in-Some.is c.in_ok-found.ensures.number in
    let first : Told (state_of d p) → IsFirstFree r (state_of d p).working (Some n) = λ told.
    subst (IsFirstFree r (state_of d p).working) c.in-Some.is (c.in_ok-found.ensures.found told) in
    blank_live d p m e c.find_number.ensures.stands c.in_ok-found.found called c.find_number.ensures.working c.find_number.ensures.geometry c.blank_inode.ensures.rest c.blank_inode.ensures.imap c.blank_inode.ensures.cache law

pub make_inode-requires-clause-number : goal.make_inode-requires-clause-number
make_inode-requires-clause-number g c =
    let d = g.D.Disk in
    let p = c.args.p.now in
    let m = c.find_number.new.p in
    let e = c.blank_inode.new.p in
    let n = c.in-Some.n in
    let r = p.master.geometry in
    let called = c.in_ok-found.ensures.called in
    let law = g.met.D.Disk.sure_is_shown e.cache.disk in
    let number : is_number r n ≡ true = subst (λ (x : Option ℕ). IfSome x (λ y. is_number r y ≡ true)) c.in-Some.is c.in_ok-found.ensures.number in
    let first : Told (state_of d p) → IsFirstFree r (state_of d p).working (Some n) = λ told.
    subst (IsFirstFree r (state_of d p).working) c.in-Some.is (c.in_ok-found.ensures.found told) in
    ap (λ (x : Request). is_number x n) (blank_geometry d p m e c.find_number.ensures.stands c.in_ok-found.found called c.find_number.ensures.working c.find_number.ensures.geometry c.blank_inode.ensures.rest c.blank_inode.ensures.imap c.blank_inode.ensures.cache law) ∙ number

pub make_inode-requires-clause-free : goal.make_inode-requires-clause-free
make_inode-requires-clause-free g c = λ shows.
    let d = g.D.Disk in
    let p = c.args.p.now in
    let m = c.find_number.new.p in
    let e = c.blank_inode.new.p in
    let n = c.in-Some.n in
    let r = p.master.geometry in
    let called = c.in_ok-found.ensures.called in
    let law = g.met.D.Disk.sure_is_shown e.cache.disk in
    let number : is_number r n ≡ true = subst (λ (x : Option ℕ). IfSome x (λ y. is_number r y ≡ true)) c.in-Some.is c.in_ok-found.ensures.number in
    let first : Told (state_of d p) → IsFirstFree r (state_of d p).working (Some n) = λ told.
    subst (IsFirstFree r (state_of d p).working) c.in-Some.is (c.in_ok-found.ensures.found told) in
    blank_free d p m e c.find_number.ensures.stands c.in_ok-found.found called c.find_number.ensures.working c.find_number.ensures.geometry c.blank_inode.ensures.rest c.blank_inode.ensures.imap c.blank_inode.ensures.cache law n number first shows

pub returns-in-Some-clause-called : goal.returns-in-Some-clause-called
returns-in-Some-clause-called g c =
    let d = g.D.Disk in
    let p = c.args.p.now in
    let m = c.find_number.new.p in
    let e = c.blank_inode.new.p in
    let n = c.in-Some.n in
    let r = p.master.geometry in
    let called = c.in_ok-found.ensures.called in
    let law = g.met.D.Disk.sure_is_shown e.cache.disk in
    let number : is_number r n ≡ true = subst (λ (x : Option ℕ). IfSome x (λ y. is_number r y ≡ true)) c.in-Some.is c.in_ok-found.ensures.number in
    let first : Told (state_of d p) → IsFirstFree r (state_of d p).working (Some n) = λ told.
    subst (IsFirstFree r (state_of d p).working) c.in-Some.is (c.in_ok-found.ensures.found told) in
    made_calls d p m e c.find_number.ensures.stands c.in_ok-found.found called c.find_number.ensures.working c.find_number.ensures.geometry c.blank_inode.ensures.rest c.blank_inode.ensures.imap c.blank_inode.ensures.cache law c.make_inode.new.p c.make_inode.result c.make_inode.ensures.called

pub returns-in-Some-clause-point : goal.returns-in-Some-clause-point
returns-in-Some-clause-point g c =
    let d = g.D.Disk in
    let p = c.args.p.now in
    let m = c.find_number.new.p in
    let e = c.blank_inode.new.p in
    let n = c.in-Some.n in
    let r = p.master.geometry in
    let called = c.in_ok-found.ensures.called in
    let law = g.met.D.Disk.sure_is_shown e.cache.disk in
    let number : is_number r n ≡ true = subst (λ (x : Option ℕ). IfSome x (λ y. is_number r y ≡ true)) c.in-Some.is c.in_ok-found.ensures.number in
    let first : Told (state_of d p) → IsFirstFree r (state_of d p).working (Some n) = λ told.
    subst (IsFirstFree r (state_of d p).working) c.in-Some.is (c.in_ok-found.ensures.found told) in
    made_keeps d p m e c.find_number.ensures.stands c.in_ok-found.found called c.find_number.ensures.working c.find_number.ensures.geometry c.blank_inode.ensures.rest c.blank_inode.ensures.imap c.blank_inode.ensures.cache law c.make_inode.new.p c.make_inode.result c.find_number.ensures.point c.make_inode.ensures.point

pub returns-in-Some-clause-undamaged : goal.returns-in-Some-clause-undamaged
returns-in-Some-clause-undamaged g c = λ told.
    let d = g.D.Disk in
    let p = c.args.p.now in
    let m = c.find_number.new.p in
    let e = c.blank_inode.new.p in
    let n = c.in-Some.n in
    let r = p.master.geometry in
    let called = c.in_ok-found.ensures.called in
    let law = g.met.D.Disk.sure_is_shown e.cache.disk in
    let number : is_number r n ≡ true = subst (λ (x : Option ℕ). IfSome x (λ y. is_number r y ≡ true)) c.in-Some.is c.in_ok-found.ensures.number in
    let first : Told (state_of d p) → IsFirstFree r (state_of d p).working (Some n) = λ told.
    subst (IsFirstFree r (state_of d p).working) c.in-Some.is (c.in_ok-found.ensures.found told) in
    c.make_inode.ensures.undamaged (told_blank d p m e c.find_number.ensures.stands c.in_ok-found.found called c.find_number.ensures.working c.find_number.ensures.geometry c.blank_inode.ensures.rest c.blank_inode.ensures.imap c.blank_inode.ensures.cache law told)

pub returns-in-Some-clause-number : goal.returns-in-Some-clause-number
returns-in-Some-clause-number g c =
    let d = g.D.Disk in
    let p = c.args.p.now in
    let m = c.find_number.new.p in
    let e = c.blank_inode.new.p in
    let n = c.in-Some.n in
    let r = p.master.geometry in
    let called = c.in_ok-found.ensures.called in
    let law = g.met.D.Disk.sure_is_shown e.cache.disk in
    let number : is_number r n ≡ true = subst (λ (x : Option ℕ). IfSome x (λ y. is_number r y ≡ true)) c.in-Some.is c.in_ok-found.ensures.number in
    let first : Told (state_of d p) → IsFirstFree r (state_of d p).working (Some n) = λ told.
    subst (IsFirstFree r (state_of d p).working) c.in-Some.is (c.in_ok-found.ensures.found told) in
    answered_as c.make_inode.result n (λ x. IfSome x (IsNumber (state_of d p))) c.make_inode.ensures.answer c.make_inode.ensures.places (λ b. number)

pub returns-in-Some-clause-places : goal.returns-in-Some-clause-places
returns-in-Some-clause-places g c =
    let d = g.D.Disk in
    let p = c.args.p.now in
    let m = c.find_number.new.p in
    let e = c.blank_inode.new.p in
    let n = c.in-Some.n in
    let r = p.master.geometry in
    let called = c.in_ok-found.ensures.called in
    let law = g.met.D.Disk.sure_is_shown e.cache.disk in
    let number : is_number r n ≡ true = subst (λ (x : Option ℕ). IfSome x (λ y. is_number r y ≡ true)) c.in-Some.is c.in_ok-found.ensures.number in
    let first : Told (state_of d p) → IsFirstFree r (state_of d p).working (Some n) = λ told.
    subst (IsFirstFree r (state_of d p).working) c.in-Some.is (c.in_ok-found.ensures.found told) in
    made_places d p m e c.find_number.ensures.stands c.in_ok-found.found called c.find_number.ensures.working c.find_number.ensures.geometry c.blank_inode.ensures.rest c.blank_inode.ensures.imap c.blank_inode.ensures.cache law n c.make_inode.new.p c.make_inode.result c.make_inode.ensures.answer c.make_inode.ensures.places

pub returns-in-Some-clause-made : goal.returns-in-Some-clause-made
returns-in-Some-clause-made g c =
    let d = g.D.Disk in
    let p = c.args.p.now in
    let m = c.find_number.new.p in
    let e = c.blank_inode.new.p in
    let n = c.in-Some.n in
    let r = p.master.geometry in
    let called = c.in_ok-found.ensures.called in
    let law = g.met.D.Disk.sure_is_shown e.cache.disk in
    let number : is_number r n ≡ true = subst (λ (x : Option ℕ). IfSome x (λ y. is_number r y ≡ true)) c.in-Some.is c.in_ok-found.ensures.number in
    let first : Told (state_of d p) → IsFirstFree r (state_of d p).working (Some n) = λ told.
    subst (IsFirstFree r (state_of d p).working) c.in-Some.is (c.in_ok-found.ensures.found told) in
    is_made d p m e c.find_number.ensures.stands c.in_ok-found.found called c.find_number.ensures.working c.find_number.ensures.geometry c.blank_inode.ensures.rest c.blank_inode.ensures.imap c.blank_inode.ensures.cache law n c.make_inode.new.p c.make_inode.result c.make_inode.ensures.answer c.args.head first
    (subst (λ (x : Request). WillSpell x c.args.head (replicate (entries_of x) 0) e.block.items) c.find_number.ensures.geometry c.blank_inode.ensures.spelled)
    c.make_inode.ensures.written
