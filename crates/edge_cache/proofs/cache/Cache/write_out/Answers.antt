use Rattle.std.proofs.Common.{◌≡◌, ◌∙◌, ℕ, List, length, inl, inr, sym, refl, ap, subst, arith, rules}
use Rattle.std.proofs.lemmas.Grind.{common_steps}
use Rattle.std.proofs.lemmas.Bool.{cases_eq}
use Rattle.edge_cache.specs.Kept.{Kept}
use Rattle.edge_cache.specs.Places.{kept_at}
use Rattle.edge_cache.specs.Cached.{Cached, list_of}
use Rattle.edge_cache.specs.Calls.{HasWholeBlocks}
use Rattle.edge_cache.proofs.CacheLaws.{gives_after, content_gives, whole_contents}
use Rattle.edge_cache.proofs.GivenLaws.{gives_none, length_blocks, waiting_take, waiting_none}
use Rattle.edge_cache.proofs.cache.Cache.write_out.Goals as goal

-- the same list of blocks is as long
same_length : (a b : List Kept) → list_of a ≡ list_of b → length a ≡ length b
same_length a b e = sym (length_blocks a) ∙ ap length e ∙ length_blocks b

pub loop-p-init : goal.loop-p-init
loop-p-init g c = record { origin = refl; faults = refl; list = refl; gives = gives_none _ _ _ _ _ _ _ _ refl (record { adds_none = λ k x h. h; stays = λ k x h. h; sure = λ k h. h; sure_stays = λ k h. h }); clean = λ i lt. absurd (omega arith) }

pub write_place-requires : goal.write_place-requires
write_place-requires g c =
    let same = same_length c.loop-p.self.held c.args.self.now.held c.loop-p.invariant.list in
    omega (arith, same, c.loop-p-test.true, c.len-p-end.ensures.held, ap (λ v. length v.held) c.self.view_is)

pub returns-in_err-write_place-clause-origin : goal.returns-in_err-write_place-clause-origin
returns-in_err-write_place-clause-origin g c = c.write_place.ensures.origin ∙ c.loop-p.invariant.origin

pub returns-in_err-write_place-clause-cause : goal.returns-in_err-write_place-clause-cause
returns-in_err-write_place-clause-cause g c = let e = c.loop-p.invariant.faults in let h = c.in_err-write_place.ensures.cause.failed in record { later = omega (arith, c.write_place.ensures.cause.later, e); failed = grind (arith, e, h, common_steps); passed = grind (arith, e, c.from_residual.ensures, common_steps) }

pub returns-in_err-write_place-clause-list : goal.returns-in_err-write_place-clause-list
returns-in_err-write_place-clause-list g c = c.write_place.ensures.list ∙ c.loop-p.invariant.list

pub returns-in_err-write_place-clause-gives : goal.returns-in_err-write_place-clause-gives
returns-in_err-write_place-clause-gives g c = gives_after _ _ _ _ _ _ _ _ _ _ _ _ _ _ c.loop-p.invariant.origin c.loop-p.invariant.gives c.write_place.ensures.gives

pub loop-p-preserved : goal.loop-p-preserved
loop-p-preserved g c =
    let was = c.loop-p.invariant in
    record {
      origin = c.write_place.ensures.origin ∙ was.origin;
      faults = c.in_ok-write_place.ensures.cause.passed ∙ was.faults;
      list = c.write_place.ensures.list ∙ was.list;
      gives = gives_after _ _ _ _ _ _ _ _ _ _ _ _ _ _ was.origin was.gives c.write_place.ensures.gives;
      clean = λ i lt. elim (cases_eq i c.loop-p.p) [
        | inl e ↦ ap (λ (j : ℕ). (kept_at c.write_place.new.self.held j).changed) e ∙ c.in_ok-write_place.ensures.clean
        | inr far ↦ ap (λ (k : Kept). k.changed) (c.write_place.ensures.others i far) ∙ was.clean i (omega arith)
      ];
    }

pub returns-clause-origin : goal.returns-clause-origin
returns-clause-origin g c = c.loop-p.invariant.origin

pub returns-clause-cause : goal.returns-clause-cause
returns-clause-cause g c = record { later = omega (arith, c.loop-p.invariant.faults); failed = search rules; passed = c.loop-p.invariant.faults }

pub returns-clause-list : goal.returns-clause-list
returns-clause-list g c = c.loop-p.invariant.list

pub returns-clause-gives : goal.returns-clause-gives
returns-clause-gives g c = c.loop-p.invariant.gives

pub returns-clause-clean : goal.returns-clause-clean
returns-clause-clean g c =
    let held = c.loop-p.self.held in
    let same = same_length held c.args.self.now.held c.loop-p.invariant.list in
    λ b. sym (waiting_take held 0 b (λ i le lt. c.loop-p.invariant.clean i (omega (arith, same, c.loop-p-test.false, c.len-p-end.ensures.held, ap (λ v. length v.held) c.self.view_is)))) ∙ waiting_none b

pub returns-in_err-write_place-clause-contents : goal.returns-in_err-write_place-clause-contents
returns-in_err-write_place-clause-contents g c = content_gives _ _ _ _ _ _ _ _ _ (returns-in_err-write_place-clause-gives g c)

pub returns-clause-contents : goal.returns-clause-contents
returns-clause-contents g c = content_gives _ _ _ _ _ _ _ _ _ c.loop-p.invariant.gives

pub returns-in_err-write_place-clause-whole : goal.returns-in_err-write_place-clause-whole
returns-in_err-write_place-clause-whole g c =
    let d = g.D.Disk in
    let old : Cached g.row.D.Denot = record { disk = c.self.inside.disk; held = c.self.inside.shelf.list } in
    subst (λ (v : Cached g.row.D.Denot). HasWholeBlocks d v) c.self.view_is
    (whole_contents d old c.self.inside.shelf.size g.met.D.Disk.whole_blocks c.self.invariant.size_is c.len-p-end.ensures.whole)

pub returns-clause-whole : goal.returns-clause-whole
returns-clause-whole g c =
    let d = g.D.Disk in
    let old : Cached g.row.D.Denot = record { disk = c.self.inside.disk; held = c.self.inside.shelf.list } in
    subst (λ (v : Cached g.row.D.Denot). HasWholeBlocks d v) c.self.view_is
    (whole_contents d old c.self.inside.shelf.size g.met.D.Disk.whole_blocks c.self.invariant.size_is c.len-p-end.ensures.whole)
