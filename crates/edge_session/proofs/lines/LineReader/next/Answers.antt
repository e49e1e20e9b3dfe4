use Rattle.std.proofs.Common.{◌≡◌, refl, sym, ap, ◌∙◌, subst, arith, [], Ok, Bool, true, false}
use Rattle.std.specs.Prelude.{IsTrue, Result}
use Rattle.edge_session.specs.Stream.{pending, used_of}
use Rattle.edge_session.proofs.StreamLaws.{not_begun, begun-more, begun-end, begun-last, begun-same}
use Rattle.edge_session.proofs.lines.LineReader.next.Goals as goal

-- a source cannot both have more and have ended
false_not_true : {E : Type 0} {b : Bool} (x y : Result Bool E) → x ≡ Ok b → y ≡ Ok false → x ≡ y → b ≡ true → ⊥
false_not_true x y is none same more = cc

pub loop-self-init : goal.loop-self-init
loop-self-init g c = record {
  start = refl;
  within = c.requires.limit;
  later = omega arith;
  tells = refl;
  faults = refl;
  ended = refl;
  seen = c.requires.seen;
  begun = λ _. begun-same _ _ _ _ _ _ _ _ (not_begun _ [] (used_of c.args.self.now) refl) refl refl refl;
}

pub returns-then-self-start-clause-line : goal.returns-then-self-start-clause-line
returns-then-self-start-clause-line g c = λ told _.
    let t = subst IsTrue (sym c.loop-self.invariant.tells) told in
    let b = begun-same _ _ _ _ _ _ _ (used_of c.has_more.new.self) (c.loop-self.invariant.begun told) (c.in_ok-has_more.ensures.same t) c.has_more.ensures.kept c.has_more.ensures.used in
    begun-last _ _ _ _ _ _ b (c.in_ok-has_more.ensures.end t (ap Ok c.if-not-branch.true)).0 (c.in_ok-has_more.ensures.ended (ap Ok c.if-not-branch.true)) (omega arith)

pub returns-then-take_up-clause-line : goal.returns-then-take_up-clause-line
returns-then-take_up-clause-line g c = λ told _.
    let t = subst IsTrue (sym c.loop-self.invariant.tells) told in
    let b = begun-same _ _ _ _ _ _ _ (used_of c.has_more.new.self) (c.loop-self.invariant.begun told) (c.in_ok-has_more.ensures.same t) c.has_more.ensures.kept c.has_more.ensures.used in
    begun-end _ (pending c.has_more.new.self) _ _ _ _ _ _ _ _ b c.if-take_up.ensures.taken

pub loop-self-preserved : goal.loop-self-preserved
loop-self-preserved g c = record {
  start = refl;
  within = omega arith;
  later = omega arith;
  tells = c.has_more.ensures.tells ∙ c.loop-self.invariant.tells;
  faults = c.in_ok-has_more.ensures.cause.passed ∙ c.loop-self.invariant.faults;
  ended = c.take_up.ensures.ended ∙ c.in_ok-has_more.ensures.goes_on (λ e. let more = c.if-not-branch.false in false_not_true _ _ refl refl e more) ∙ c.loop-self.invariant.ended;
  seen = λ t e. c.has_more.ensures.seen t (sym c.take_up.ensures.ended ∙ e);
  begun = λ told.
      let t = subst IsTrue (sym c.loop-self.invariant.tells) told in
      let b = begun-same _ _ _ _ _ _ _ (used_of c.has_more.new.self) (c.loop-self.invariant.begun told) (c.in_ok-has_more.ensures.same t) c.has_more.ensures.kept c.has_more.ensures.used in
      begun-more _ (pending c.has_more.new.self) _ _ _ _ _ _ _ b c.if-take_up.ensures.taken;
}
