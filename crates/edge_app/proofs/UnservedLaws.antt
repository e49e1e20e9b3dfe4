-- What `run` promises where it has no session: there was no memory, or the image was not mounted.
use Rattle.std.proofs.Common.{◌≡◌, ◌⊎◌, inl, inr, ℕ, ◌+◌, ◌==◌, ◌&&◌, not, Bool, true, false, cond, List, [], ◌∷◌, ◌++◌, length, Some, refl, sym, ap, ◌∙◌, subst, arith, append-nil}
use Rattle.std.specs.Prelude.{IsTrue, slice_get}
use Rattle.std.proofs.lemmas.Bool.{false≢true}
use Rattle.std.proofs.lemmas.Bool.Decides.{nat_tests}
use Rattle.edge_base.specs.outside.Faults.{Rose}
use Rattle.edge_base.specs.declared.geometry.Request.{Request}
use Rattle.edge_disk.specs.Disk.{DiskState}
use Rattle.edge_disk.specs.State.{IsUntouched, shown_by}
use Rattle.edge_image.specs.Image.{reason_of}
use Rattle.edge_image.specs.Opens.{OpensTo}
use Rattle.edge_model.specs.Run.{Run, run_of}
use Rattle.edge_model.specs.Tree.{Tree}
use Rattle.edge_session.specs.Line.{moments_of, moments_after}
use Rattle.edge_session.specs.Script.{lines_of}
use Rattle.edge_session.specs.Session.{closed_where, run_over, text_of}
use Rattle.edge_session.proofs.LineLaws.{none_taken}
use Rattle.edge_app.specs.Causes.{HasCauses, is_run_status, is_session, MeetsNoFault}
use Rattle.edge_app.specs.Headline.{Answers, Headline, IsSoundStart, IsUnserved, Points, Replies, is_closed, is_used_up, lines_of_report, may_close, run_reported, trees_answered, trees_at_points}
use Rattle.edge_app.specs.Report.{unserved_by}
use Rattle.edge_app.specs.Runs.{Runs}
use Rattle.edge_app.specs.World.{World}
use Rattle.edge_app.specs.declared.report.Report.{Report}
use Rattle.edge_app.specs.declared.report.TheConstants.{DONE, WORDS, SOURCE, SINK, DEVICE, DAMAGED, MEMORY, NOT_A_VOLUME, GEOMETRY, LIMIT}
use Rattle.edge_app.proofs.SoundLaws.{SureIsShown, still_opens}
use Rattle.edge_app.proofs.StatusLaws.{stands}

abbrev pub HasNoSession : ℕ → Type 0
HasNoSession n = (n ≡ DEVICE) ⊎ (n ≡ MEMORY) ⊎ (n ≡ NOT_A_VOLUME)

record IsApart (n : ℕ) : Type 0 where
  known : IsTrue (is_run_status n)
  no_session : IsTrue (is_session n) → ⊥
  done : n ≡ DONE → ⊥
  source : n ≡ SOURCE → ⊥
  sink : n ≡ SINK → ⊥
  damaged : n ≡ DAMAGED → ⊥
  limit : n ≡ LIMIT → ⊥
  kind : (n ≡ WORDS) ⊎ (n ≡ DEVICE) ⊎ (n ≡ MEMORY) ⊎ (n ≡ NOT_A_VOLUME) ⊎ (n ≡ GEOMETRY)
  closes : may_close n ≡ (n == DEVICE)

is_apart : (n : ℕ) → HasNoSession n → IsApart n
is_apart n (inl five) = record {
  known = subst (λ (m : ℕ). IsTrue (is_run_status m)) (sym five) refl;
  no_session = λ h. false≢true (subst (λ (m : ℕ). IsTrue (is_session m)) five h);
  done = λ e. omega (arith, five, e);
  source = λ e. omega (arith, five, e);
  sink = λ e. omega (arith, five, e);
  damaged = λ e. omega (arith, five, e);
  limit = λ e. omega (arith, five, e);
  kind = inr (inl five);
  closes = subst (λ (m : ℕ). may_close m ≡ (m == DEVICE)) (sym five) refl;
}
is_apart n (inr (inl seven)) = record {
  known = subst (λ (m : ℕ). IsTrue (is_run_status m)) (sym seven) refl;
  no_session = λ h. false≢true (subst (λ (m : ℕ). IsTrue (is_session m)) seven h);
  done = λ e. omega (arith, seven, e);
  source = λ e. omega (arith, seven, e);
  sink = λ e. omega (arith, seven, e);
  damaged = λ e. omega (arith, seven, e);
  limit = λ e. omega (arith, seven, e);
  kind = inr (inr (inl seven));
  closes = subst (λ (m : ℕ). may_close m ≡ (m == DEVICE)) (sym seven) refl;
}
is_apart n (inr (inr eight)) = record {
  known = subst (λ (m : ℕ). IsTrue (is_run_status m)) (sym eight) refl;
  no_session = λ h. false≢true (subst (λ (m : ℕ). IsTrue (is_session m)) eight h);
  done = λ e. omega (arith, eight, e);
  source = λ e. omega (arith, eight, e);
  sink = λ e. omega (arith, eight, e);
  damaged = λ e. omega (arith, eight, e);
  limit = λ e. omega (arith, eight, e);
  kind = inr (inr (inr (inl eight)));
  closes = subst (λ (m : ℕ). may_close m ≡ (m == DEVICE)) (sym eight) refl;
}

-- ---- the run over no line

none_of : (b : Bool) → ◌≡◌ {A = List (List ℕ)} (cond b [] []) []
none_of true = refl
none_of false = refl

nonzero : (x : ℕ) (script : List ℕ) → (0 == length (x ∷ script)) ≡ false
nonzero x script = grind (arith, nat_tests)

pub no_lines : (script : List ℕ) (status reason : ℕ) → lines_of_report script (unserved_by status reason) ≡ []
no_lines [] status reason = none_of (not (status == SOURCE))
no_lines (x ∷ script) status reason = ap (λ b. cond (b && not (status == SOURCE)) (lines_of (x ∷ script)) []) (nonzero x script)

over_none : (g : Request) (t : Tree) (script : List ℕ) (status reason : ℕ)
    → run_reported g t script (unserved_by status reason) ≡ closed_where (is_closed script (unserved_by status reason)) (run_over g t [])
over_none g t script status reason = ap (λ lines. closed_where (is_closed script (unserved_by status reason)) (run_over g t lines)) (no_lines script status reason)

first_is : (g : Request) (t : Tree) (closing : Bool) → slice_get (closed_where closing (run_over g t [])).trees 0 ≡ Some t
unfolding run_over run_of
first_is g t true = refl
first_is g t false = refl

one_is : (g : Request) (t : Tree) (closing : Bool) → closing ≡ false → length (closed_where closing (run_over g t [])).trees ≡ 1
unfolding run_over run_of
one_is g t true e = absurd (let no : true ≡ false = e in cc)
one_is g t false e = refl

no_text : (g : Request) (t : Tree) → text_of (run_over g t []) ≡ []
unfolding text_of run_over run_of
no_text g t = refl

opening_alone : (g : Request) (t : Tree) → length (run_over g t []).trees ≡ 1
opening_alone g t = one_is g t false refl

not_five : (n : ℕ) → (n ≡ DEVICE → ⊥) → (n == DEVICE) ≡ false
not_five n other = grind (arith, nat_tests)

module _ (before : World) (behind : DiskState) (status reason : ℕ) (is : HasNoSession status) (device : status ≡ DEVICE → Rose before.disk.faults behind.faults)
    (refused : IsTrue before.disk.origin.shows → status ≡ NOT_A_VOLUME → reason_of (shown_by before.disk) ≡ Some reason) where
  abbrev after : World
  after = record before { disk = behind }

  abbrev report : Report
  report = unserved_by status reason

  nothing : IsUnserved before after report
  nothing = let apart = is_apart status is in record { status = apart.kind; commands = refl; taken = refl; source = refl; sink = refl }

  not_refused : IsTrue before.disk.origin.shows → (t : Tree) → OpensTo (shown_by before.disk) t → status ≡ NOT_A_VOLUME → ⊥
  not_refused shows t opens eight = let e = sym opens.mounts ∙ refused shows eight in cc

  replies : (g : Request) (t : Tree) → Replies g t before after report
  replies g t = record {
    lines = inl (ap length (no_lines before.source.left status reason));
    text = record {
      answered = λ other. sym (ap (λ text. before.sink.taken ++ text) (no_text g t) ∙ append-nil before.sink.taken);
      part = λ e. absurd ((is_apart status is).sink e);
    };
    begun = λ e. absurd ((is_apart status is).source e);
    silent = λ none. (nothing, refl);
  }

  unclosed : (status ≡ DEVICE → ⊥) → is_closed before.source.left report ≡ false
  unclosed other = ap (λ b. b && (0 == length (lines_of_report before.source.left report)) && is_used_up before.source.left report)
      ((is_apart status is).closes ∙ not_five status other)

  points : (g : Request) (t : Tree) → Points (trees_answered g t before report) (trees_at_points g t before report) report
  points g t = record {
    answered_first = let e = opening_alone g t in omega arith;
    all = λ other. sym (ap (λ (r : Run). length r.trees) (over_none g t before.source.left status reason) ∙ one_is g t (is_closed before.source.left report) (unclosed other));
  }

  answers : (g : Request) (t : Tree) → Answers g t before after report
  answers g t = record { replies = replies g t; points = points g t; whole = λ e. absurd ((is_apart status is).done e) }

  headline : SureIsShown before.disk → IsUntouched before.disk behind → (t : Tree) (start : IsSoundStart before.disk t)
      → Headline start.sound.opens.master.geometry t before after report
  headline is_shown same t start =
      let g = start.sound.opens.master.geometry in
      record {
        replies = replies g t;
        images = λ image permitted plain. inl (record {
          tree = t;
          is_there = ap (λ (r : Run). slice_get r.trees 0) (over_none g t before.source.left status reason) ∙ first_is g t (is_closed before.source.left report);
          opens = still_opens before.disk behind t is_shown same start.sound image permitted;
        });
        points = points g t;
        whole = λ e. absurd ((is_apart status is).done e);
      }

  complete : IsTrue before.disk.origin.shows → (t : Tree) → OpensTo (shown_by before.disk) t → MeetsNoFault before after → (status ≡ DONE) ⊎ (status ≡ MEMORY)
  complete shows t opens no_fault = elim is [
    | inl five ↦ absurd (no_fault.disk (device five))
    | inr rest ↦ elim rest [ inl seven ↦ inr seven | inr eight ↦ absurd (not_refused shows t opens eight) ]
  ]

  pub runs_unserved : SureIsShown before.disk → IsUntouched before.disk behind → Runs before after report
  runs_unserved is_shown same =
      let apart = is_apart status is in
      record {
        status = apart.known;
        limits = record { bytes = omega arith; lines = omega arith; one_more = λ e. absurd (apart.sink e); reached = λ e. absurd (apart.limit e) };
        unserved = λ none. (nothing, same);
        end = λ e. absurd (apart.done e);
        lines = λ told. inr nothing;
        clock = λ told ticks. sym (ap (λ (lines : List (List ℕ)). moments_after (moments_of lines) before.clock.moments) (no_lines before.source.left status reason) ∙ none_taken before.clock.moments);
        image = λ shows. record {
          refused = refused shows;
          served = λ session. absurd (apart.no_session session);
          damaged = λ e. absurd (apart.damaged e);
          opens = λ t opens. (apart.damaged, not_refused shows t opens);
        };
        answers = λ told t opens. answers opens.master.geometry t;
        complete = λ told t opens within no_fault. complete told.disk t opens no_fault;
        headline = λ told t start. headline is_shown same t start;
      }

  pub causes_unserved : behind.origin ≡ before.disk.origin → (status ≡ NOT_A_VOLUME) ⊎ (reason ≡ 0) → (status ≡ DEVICE) ⊎ (behind.faults ≡ before.disk.faults) → HasCauses before after report
  causes_unserved same told counted =
      let apart = is_apart status is in
      record {
        source = stands _ _ apart.source refl;
        sink = stands _ _ apart.sink refl;
        device = record { rose = device; still = λ other. elim counted [ inl five ↦ absurd (other five) | inr still ↦ still ] };
        reason = λ other. elim told [ inl eight ↦ absurd (other eight) | inr none ↦ none ];
        damage = λ _. refl;
        origin = same;
      }
