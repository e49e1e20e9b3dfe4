use Rattle.std.proofs.Common.{◌≡◌, refl, subst, arith, Some}
use Rattle.edge_base.specs.outside.Faults.{Because}
use Rattle.edge_store.specs.Calls.{damage_of}
use Rattle.edge_store.specs.declared.fault.StoreFault.{StoreFault}
use Rattle.edge_store.specs.declared.fault.StoreFault.TheVariants.{Damaged}
use Rattle.edge_point.proofs.EndedLaws.{ended_guarded, ended_point}
use Rattle.edge_point.proofs.read.report.Goals as goal

pub returns-clause-stands : goal.returns-clause-stands
returns-clause-stands g c = ended_point g.D.Disk c.args.p.now (Some c.args.damage) c.requires.stands

pub returns-clause-called : goal.returns-clause-called
returns-clause-called g c =
    let d = g.D.Disk in
    let p = c.args.p.now in
    record {
      origin = refl;
      live = refl;
      cause = record {
        later = omega arith;
        passed = tt;
        failed = λ f h. let e : Damaged c.args.damage ≡ f = cc h in
            subst (λ (x : StoreFault). Because (d.faults p.cache.disk) (d.faults p.cache.disk) p.damage (Some c.args.damage) (damage_of x)) e (refl, refl);
      };
      guarded = ended_guarded d p (Some c.args.damage);
    }

pub returns-clause-point : goal.returns-clause-point
returns-clause-point g c = record { committed = refl; points = refl; under_way = refl }

pub returns-clause-working : goal.returns-clause-working
returns-clause-working g c = record { working = refl; places = refl }

pub returns-clause-still_holds : goal.returns-clause-still_holds
returns-clause-still_holds g c = c.requires.holds

pub returns-clause-below : goal.returns-clause-below
returns-clause-below g c = λ clean. record { adds_none = λ k b h. h; stays = λ k b h. h; sure = λ k h. h; sure_stays = λ k h. h }
