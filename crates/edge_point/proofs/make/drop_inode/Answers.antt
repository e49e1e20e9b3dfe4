use Rattle.std.proofs.Common.{◌≡◌, ◌∙◌, Option, Ok, Some, None, refl, sym, ap, subst}
use Rattle.std.specs.Prelude.{is_some}
use Rattle.edge_store.specs.State.{Told}
use Rattle.edge_store.specs.View.{Inode}
use Rattle.edge_point.specs.Changing.{LiesAt, working_of}
use Rattle.edge_point.specs.Finding.{TellsInode}
use Rattle.edge_point.specs.Seen.{state_of}
use Rattle.edge_point.specs.declared.inode.Found.{Found}
use Rattle.edge_point.proofs.AgainLaws.{again_calls, again_keeps, again_lies, again_live, again_meets, again_number, again_places, again_dropped}
use Rattle.edge_point.proofs.FindLaws.{err_is}
use Rattle.edge_point.proofs.FoundLaws.{called_err, called_ok, meets_err, meets_ok}
use Rattle.edge_point.proofs.StepLaws.{rest_over}
use Rattle.edge_point.proofs.make.drop_inode.Goals as goal

-- ---- a fault, or nothing

pub returns-in_err-found-clause-called : goal.returns-in_err-found-clause-called
returns-in_err-found-clause-called g c =
    let d = g.D.Disk in
    called_err (state_of d c.args.p.now) (state_of d c.find.new.p) c.find.result _ c.in_err-found.field-0.0 c.find.ensures.called c.in_err-found.was
    (err_is _ _ c.from_residual.ensures)

pub returns-in_err-found-clause-damage : goal.returns-in_err-found-clause-damage
returns-in_err-found-clause-damage g c = λ told.
    let d = g.D.Disk in
    let a = state_of d c.args.p.now in
    meets_err a (state_of d c.find.new.p) c.args.p.now.master.geometry (a.places c.args.n) c.find.new.p.block.items (a.working.inodes c.args.n)
    c.find.ensures.working c.find.result _ c.in_err-found.field-0.0 (c.find.ensures.tells told) c.in_err-found.was (err_is _ _ c.from_residual.ensures)

pub returns-in-None-clause-called : goal.returns-in-None-clause-called
returns-in-None-clause-called g c =
    let d = g.D.Disk in
    called_ok (state_of d c.args.p.now) (state_of d c.find.new.p) c.in_ok-found.found tt c.in_ok-found.ensures.called

pub returns-in-None-clause-damage : goal.returns-in-None-clause-damage
returns-in-None-clause-damage g c = λ told.
    let d = g.D.Disk in
    let a = state_of d c.args.p.now in
    meets_ok a (state_of d c.find.new.p) c.args.p.now.master.geometry (a.places c.args.n) c.find.new.p.block.items (a.working.inodes c.args.n)
    c.find.ensures.working c.in_ok-found.found tt (c.in_ok-found.ensures.tells told)

pub returns-in-None-clause-places : goal.returns-in-None-clause-places
returns-in-None-clause-places g c = λ k far t. c.find.ensures.working.places t k

pub returns-in-None-clause-dropped : goal.returns-in-None-clause-dropped
returns-in-None-clause-dropped g c = λ told.
    let a = state_of g.D.Disk c.args.p.now in
    let none : a.working.inodes c.args.n ≡ None =
    subst (λ (x : Option Found). TellsInode c.args.p.now.master.geometry (a.places c.args.n) c.find.new.p.block.items (a.working.inodes c.args.n) (Ok x))
    c.in-None.is (c.in_ok-found.ensures.tells told) in
    absurd (cc (sym (c.requires.there told) ∙ ap (λ (x : Option Inode). is_some x) none))

-- ---- it was found

pub is_second-second-requires : goal.is_second-second-requires
is_second-second-requires g c =
    let d = g.D.Disk in
    let p = c.args.p.now in
    let m = c.find.new.p in
    let n = c.args.n in
    let f = c.in-Some.found in
    let r = p.master.geometry in
    let called = c.in_ok-found.ensures.called in
    let law = g.met.D.Disk.sure_is_shown m.cache.disk in
    let rest = rest_over m m.imap m.cache in
    let tells : Told (state_of d p) → TellsInode r ((state_of d p).places n) m.block.items ((state_of d p).working.inodes n) (Ok (Some f)) = λ told.
    subst (λ (x : Option Found). TellsInode r ((state_of d p).places n) m.block.items ((state_of d p).working.inodes n) (Ok x)) c.in-Some.is
    (c.in_ok-found.ensures.tells told) in
    again_number d p m m n f c.requires.number c.find.ensures.stands c.in_ok-found.found called c.find.ensures.working c.find.ensures.geometry rest refl refl law tells

pub clear_inode-requires-clause-live : goal.clear_inode-requires-clause-live
clear_inode-requires-clause-live g c =
    let d = g.D.Disk in
    let p = c.args.p.now in
    let m = c.find.new.p in
    let n = c.args.n in
    let f = c.in-Some.found in
    let r = p.master.geometry in
    let called = c.in_ok-found.ensures.called in
    let law = g.met.D.Disk.sure_is_shown m.cache.disk in
    let rest = rest_over m m.imap m.cache in
    let tells : Told (state_of d p) → TellsInode r ((state_of d p).places n) m.block.items ((state_of d p).working.inodes n) (Ok (Some f)) = λ told.
    subst (λ (x : Option Found). TellsInode r ((state_of d p).places n) m.block.items ((state_of d p).working.inodes n) (Ok x)) c.in-Some.is
    (c.in_ok-found.ensures.tells told) in
    again_live d p m m n f c.requires.number c.find.ensures.stands c.in_ok-found.found called c.find.ensures.working c.find.ensures.geometry rest refl refl law tells

pub clear_inode-requires-clause-number : goal.clear_inode-requires-clause-number
clear_inode-requires-clause-number g c =
    let d = g.D.Disk in
    let p = c.args.p.now in
    let m = c.find.new.p in
    let n = c.args.n in
    let f = c.in-Some.found in
    let r = p.master.geometry in
    let called = c.in_ok-found.ensures.called in
    let law = g.met.D.Disk.sure_is_shown m.cache.disk in
    let rest = rest_over m m.imap m.cache in
    let tells : Told (state_of d p) → TellsInode r ((state_of d p).places n) m.block.items ((state_of d p).working.inodes n) (Ok (Some f)) = λ told.
    subst (λ (x : Option Found). TellsInode r ((state_of d p).places n) m.block.items ((state_of d p).working.inodes n) (Ok x)) c.in-Some.is
    (c.in_ok-found.ensures.tells told) in
    again_number d p m m n f c.requires.number c.find.ensures.stands c.in_ok-found.found called c.find.ensures.working c.find.ensures.geometry rest refl refl law tells

pub clear_inode-requires-clause-lies : goal.clear_inode-requires-clause-lies
clear_inode-requires-clause-lies g c = λ shows.
    let d = g.D.Disk in
    let p = c.args.p.now in
    let m = c.find.new.p in
    let n = c.args.n in
    let f = c.in-Some.found in
    let r = p.master.geometry in
    let called = c.in_ok-found.ensures.called in
    let law = g.met.D.Disk.sure_is_shown m.cache.disk in
    let rest = rest_over m m.imap m.cache in
    let tells : Told (state_of d p) → TellsInode r ((state_of d p).places n) m.block.items ((state_of d p).working.inodes n) (Ok (Some f)) = λ told.
    subst (λ (x : Option Found). TellsInode r ((state_of d p).places n) m.block.items ((state_of d p).working.inodes n) (Ok x)) c.in-Some.is
    (c.in_ok-found.ensures.tells told) in
    subst (LiesAt m.master.geometry (working_of d m) n) (sym c.is_second-second.ensures) (again_lies d p m m n f c.requires.number c.find.ensures.stands c.in_ok-found.found called c.find.ensures.working c.find.ensures.geometry rest refl refl law tells shows)

pub returns-in-Some-clause-called : goal.returns-in-Some-clause-called
returns-in-Some-clause-called g c =
    let d = g.D.Disk in
    let p = c.args.p.now in
    let m = c.find.new.p in
    let n = c.args.n in
    let f = c.in-Some.found in
    let r = p.master.geometry in
    let called = c.in_ok-found.ensures.called in
    let law = g.met.D.Disk.sure_is_shown m.cache.disk in
    let rest = rest_over m m.imap m.cache in
    let tells : Told (state_of d p) → TellsInode r ((state_of d p).places n) m.block.items ((state_of d p).working.inodes n) (Ok (Some f)) = λ told.
    subst (λ (x : Option Found). TellsInode r ((state_of d p).places n) m.block.items ((state_of d p).working.inodes n) (Ok x)) c.in-Some.is
    (c.in_ok-found.ensures.tells told) in
    again_calls d p m m n f c.requires.number c.find.ensures.stands c.in_ok-found.found called c.find.ensures.working c.find.ensures.geometry rest refl refl law tells c.clear_inode.new.p c.clear_inode.result c.clear_inode.ensures.called

pub returns-in-Some-clause-point : goal.returns-in-Some-clause-point
returns-in-Some-clause-point g c =
    let d = g.D.Disk in
    let p = c.args.p.now in
    let m = c.find.new.p in
    let n = c.args.n in
    let f = c.in-Some.found in
    let r = p.master.geometry in
    let called = c.in_ok-found.ensures.called in
    let law = g.met.D.Disk.sure_is_shown m.cache.disk in
    let rest = rest_over m m.imap m.cache in
    let tells : Told (state_of d p) → TellsInode r ((state_of d p).places n) m.block.items ((state_of d p).working.inodes n) (Ok (Some f)) = λ told.
    subst (λ (x : Option Found). TellsInode r ((state_of d p).places n) m.block.items ((state_of d p).working.inodes n) (Ok x)) c.in-Some.is
    (c.in_ok-found.ensures.tells told) in
    again_keeps d p m m n f c.requires.number c.find.ensures.stands c.in_ok-found.found called c.find.ensures.working c.find.ensures.geometry rest refl refl law tells c.clear_inode.new.p c.clear_inode.result c.find.ensures.point c.clear_inode.ensures.point

pub returns-in-Some-clause-damage : goal.returns-in-Some-clause-damage
returns-in-Some-clause-damage g c = λ told.
    let d = g.D.Disk in
    let p = c.args.p.now in
    let m = c.find.new.p in
    let n = c.args.n in
    let f = c.in-Some.found in
    let r = p.master.geometry in
    let called = c.in_ok-found.ensures.called in
    let law = g.met.D.Disk.sure_is_shown m.cache.disk in
    let rest = rest_over m m.imap m.cache in
    let tells : Told (state_of d p) → TellsInode r ((state_of d p).places n) m.block.items ((state_of d p).working.inodes n) (Ok (Some f)) = λ told.
    subst (λ (x : Option Found). TellsInode r ((state_of d p).places n) m.block.items ((state_of d p).working.inodes n) (Ok x)) c.in-Some.is
    (c.in_ok-found.ensures.tells told) in
    again_meets d p m m n f c.requires.number c.find.ensures.stands c.in_ok-found.found called c.find.ensures.working c.find.ensures.geometry rest refl refl law tells c.clear_inode.new.p c.clear_inode.result c.clear_inode.ensures.undamaged told

pub returns-in-Some-clause-places : goal.returns-in-Some-clause-places
returns-in-Some-clause-places g c =
    let d = g.D.Disk in
    let p = c.args.p.now in
    let m = c.find.new.p in
    let n = c.args.n in
    let f = c.in-Some.found in
    let r = p.master.geometry in
    let called = c.in_ok-found.ensures.called in
    let law = g.met.D.Disk.sure_is_shown m.cache.disk in
    let rest = rest_over m m.imap m.cache in
    let tells : Told (state_of d p) → TellsInode r ((state_of d p).places n) m.block.items ((state_of d p).working.inodes n) (Ok (Some f)) = λ told.
    subst (λ (x : Option Found). TellsInode r ((state_of d p).places n) m.block.items ((state_of d p).working.inodes n) (Ok x)) c.in-Some.is
    (c.in_ok-found.ensures.tells told) in
    again_places d p m m n f c.requires.number c.find.ensures.stands c.in_ok-found.found called c.find.ensures.working c.find.ensures.geometry rest refl refl law tells c.clear_inode.new.p c.clear_inode.result c.clear_inode.ensures.places

pub returns-in-Some-clause-dropped : goal.returns-in-Some-clause-dropped
returns-in-Some-clause-dropped g c =
    let d = g.D.Disk in
    let p = c.args.p.now in
    let m = c.find.new.p in
    let n = c.args.n in
    let f = c.in-Some.found in
    let r = p.master.geometry in
    let called = c.in_ok-found.ensures.called in
    let law = g.met.D.Disk.sure_is_shown m.cache.disk in
    let rest = rest_over m m.imap m.cache in
    let tells : Told (state_of d p) → TellsInode r ((state_of d p).places n) m.block.items ((state_of d p).working.inodes n) (Ok (Some f)) = λ told.
    subst (λ (x : Option Found). TellsInode r ((state_of d p).places n) m.block.items ((state_of d p).working.inodes n) (Ok x)) c.in-Some.is
    (c.in_ok-found.ensures.tells told) in
    again_dropped d p m m n f c.requires.number c.find.ensures.stands c.in_ok-found.found called c.find.ensures.working c.find.ensures.geometry rest refl refl law tells c.clear_inode.new.p c.clear_inode.result c.clear_inode.ensures.dropped
