use Rattle.std.proofs.Common.{◌≡◌, ◌∙◌, ◌-◌, ℕ, List, inl, inr, sym, subst, rules}
use Rattle.std.specs.Prelude.{IsTrue, Contains}
use Rattle.std.proofs.lemmas.Bool.{cases_eq}
use Rattle.edge_cache.specs.declared.shelf.TheConstants.{BUFFERS}
use Rattle.edge_cache.specs.Places.{IsNew}
use Rattle.edge_cache.specs.Given.{waiting}
use Rattle.edge_cache.specs.Cached.{list_of}
use Rattle.edge_cache.proofs.PlaceLaws.{new_take}
use Rattle.edge_cache.proofs.GivenLaws.{waiting_new}
use Rattle.edge_cache.proofs.CacheLaws.{used_added, shown_new, listed_behind, only_then}
use Rattle.edge_cache.proofs.cache.Cache.miss.Goals as goal

pub bring-requires-clause-absent : goal.bring-requires-clause-absent
bring-requires-clause-absent g c = subst (IsNew c.args.b) (sym c.in_ok-make_room.ensures.list) (new_take c.args.b (list_of c.args.self.now.held) (BUFFERS - 1) c.requires.absent)

pub returns-clause-bytes : goal.returns-clause-bytes
returns-clause-bytes g c = λ tells. c.in_ok-bring.ensures.bytes (subst (λ o. IsTrue o.shows) (sym c.make_room.ensures.origin) tells) ∙ shown_new _ _ c.args.self.now.held _ _ _ _ _ _ c.args.b c.requires.absent c.make_room.ensures.only.gives

pub returns-clause-list : goal.returns-clause-list
returns-clause-list g c = record { used = c.in_ok-bring.ensures.list ∙ used_added c.args.b (list_of c.args.self.now.held) (list_of _) c.requires.absent c.in_ok-make_room.ensures.list; fault = search rules }

pub returns-in_err-bring-clause-only : goal.returns-in_err-bring-clause-only
returns-in_err-bring-clause-only g c =
    let d = g.D.Disk in
    only_then d c.args.self.now c.make_room.new.self c.bring.new.self c.make_room.ensures.only c.bring.ensures.shown c.bring.ensures.candidates c.bring.ensures.same
    (λ k listed. c.make_room.ensures.only.buffers k (subst (λ (l : List ℕ). Contains l k) c.in_err-bring.ensures.fault listed))

pub returns-clause-only : goal.returns-clause-only
returns-clause-only g c =
    let d = g.D.Disk in
    let old = c.args.self.now.held in
    let mid = c.make_room.new.self.held in
    let absent : IsNew c.args.b (list_of mid) = subst (IsNew c.args.b) (sym c.in_ok-make_room.ensures.list) (new_take c.args.b (list_of old) (BUFFERS - 1) c.requires.absent) in
    let here : waiting mid c.args.b ≡ waiting old c.args.b = waiting_new mid c.args.b absent ∙ sym (waiting_new old c.args.b c.requires.absent) in
    only_then d c.args.self.now c.make_room.new.self c.bring.new.self c.make_room.ensures.only c.bring.ensures.shown c.bring.ensures.candidates c.bring.ensures.same
    (λ k listed. elim (cases_eq k c.args.b) [
      | inl e ↦ subst (λ (j : ℕ). waiting mid j ≡ waiting old j) (sym e) here
      | inr far ↦ c.make_room.ensures.only.buffers k (listed_behind c.args.b (list_of mid) k far (subst (λ (l : List ℕ). Contains l k) c.in_ok-bring.ensures.list listed))
    ])
