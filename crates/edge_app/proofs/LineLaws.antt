-- The lines that a session took, as its report tells them.
use Rattle.std.proofs.Common.{◌≡◌, ◌⊎◌, inl, inr, ℕ, zero, suc, ◌+◌, ◌<◌, ◌≤◌, ◌==◌, ◌&&◌, ◌||◌, Bool, true, false, cond, List, [], ◌∷◌, length, take, refl, sym, ap, ◌∙◌, arith}
use Rattle.std.proofs.lemmas.Bool.{and_from, eq-eqb}
use Rattle.std.proofs.lemmas.Bool.Decides.{nat_tests}
use Rattle.std.proofs.lemmas.List.{length-take, length-take-le}
use Rattle.edge_base.specs.declared.damage.Damage.{Damage}
use Rattle.edge_base.specs.declared.geometry.Request.{Request}
use Rattle.edge_model.specs.Tree.{Tree}
use Rattle.edge_model.specs.declared.ask.AskFault.TheVariants.{Device, Damaged}
use Rattle.edge_session.specs.declared.ended.How.{How}
use Rattle.edge_session.specs.declared.ended.How.TheVariants.{End, Source, Sink, Limit, Fault}
use Rattle.edge_session.specs.Script.{lines_of, lines_taken, onto_first_line, onto_whole_line, whole_lines}
use Rattle.edge_session.specs.Session.{AnsweredLines, MeetsLimit, closed_where, has_closing, lines_by, run_over, run_taken}
use Rattle.edge_session.proofs.ProgressLaws.{taken_all, taken_part}
use Rattle.edge_app.specs.Headline.{TookLines, is_closed, lines_of_report, run_reported}
use Rattle.edge_app.specs.Report.{served_by}
use Rattle.edge_app.specs.Script.{FitsSession, limits}
use Rattle.edge_app.specs.declared.report.Report.{Report}
use Rattle.edge_app.specs.declared.run_command.TheConstants.{MOST_LINES, MOST_BYTES}
use Rattle.edge_app.proofs.StatusLaws.{tells_source}

pub same_lines : (how : How) (script : List ℕ) (commands taken points : ℕ) → lines_of_report script (served_by how commands taken points) ≡ lines_by how script taken
same_lines how script commands taken points = ap (lines_taken script taken) (tells_source how)

-- ---- which are taken

answered_or_more : (lines : List (List ℕ)) (all : List (List ℕ)) (k commands : ℕ) → lines ≡ take k all → k ≤ length all → (k ≡ commands) ⊎ (k ≡ commands + 1)
    → (length lines ≡ commands) ⊎ (length lines ≡ commands + 1)
answered_or_more lines all k commands is inside (inl e) = inl (ap length is ∙ length-take-le k all inside ∙ e)
answered_or_more lines all k commands is inside (inr e) = inr (ap length is ∙ length-take-le k all inside ∙ e)

module _ (script : List ℕ) (commands taken points : ℕ) where
  abbrev report : How → Report
  report how = served_by how commands taken points

  pub took_lines : (how : How) → AnsweredLines how limits script commands taken → TookLines (lines_of_report script (report how)) (report how)
  took_lines End is = inl (ap length (taken_all script taken is.bytes) ∙ sym is.lines)
  took_lines Limit is = answered_or_more _ (lines_of script) commands commands is.answered.lines is.answered.inside (inl refl)
  took_lines Source is = answered_or_more _ (lines_of script) commands commands is.answered.lines is.answered.inside (inl refl)
  took_lines Sink is = answered_or_more _ (lines_of script) (commands + 1) commands is.lines (let i = is.inside in omega arith) (inr refl)
  took_lines (Fault Device) (inl left) = answered_or_more _ (lines_of script) (commands + 1) commands left.one_more.lines (let i = left.one_more.inside in omega arith) (inr refl)
  took_lines (Fault Device) (inr (inl is)) = inl (ap length (taken_all script taken is.bytes) ∙ sym is.lines)
  took_lines (Fault Device) (inr (inr is)) = answered_or_more _ (lines_of script) commands commands is.answered.lines is.answered.inside (inl refl)
  took_lines (Fault (Damaged d)) (inl left) = answered_or_more _ (lines_of script) (commands + 1) commands left.one_more.lines (let i = left.one_more.inside in omega arith) (inr refl)
  took_lines (Fault (Damaged d)) (inr (inl is)) = inl (ap length (taken_all script taken is.bytes) ∙ sym is.lines)
  took_lines (Fault (Damaged d)) (inr (inr is)) = answered_or_more _ (lines_of script) commands commands is.answered.lines is.answered.inside (inl refl)

  -- ---- the closing step

  used_whole : taken ≡ length script → ((taken == length script) || (commands == MOST_LINES) || (taken == MOST_BYTES)) ≡ true
  used_whole e = ap (λ b. b || (commands == MOST_LINES) || (taken == MOST_BYTES)) (eq-eqb taken (length script) e)

  second : (x y z : Bool) → y ≡ true → (x || y || z) ≡ true
  second true y z e = refl
  second false y z e = ap (λ b. b || z) e

  third : (x y z : Bool) → z ≡ true → (x || y || z) ≡ true
  third true y z e = refl
  third false true z e = refl
  third false false z e = e

  used_most : (commands ≡ MOST_LINES) ⊎ (taken ≡ MOST_BYTES) → ((taken == length script) || (commands == MOST_LINES) || (taken == MOST_BYTES)) ≡ true
  used_most (inl e) = second (taken == length script) (commands == MOST_LINES) (taken == MOST_BYTES) (eq-eqb commands MOST_LINES e)
  used_most (inr e) = third (taken == length script) (commands == MOST_LINES) (taken == MOST_BYTES) (eq-eqb taken MOST_BYTES e)

  -- the closing step counts in the report exactly where it does in the session
  abbrev lines : List (List ℕ)
  lines = lines_taken script taken false

  apart : (n : ℕ) (rest : Bool) → n ≡ commands + 1 → ((commands == n) && rest) ≡ (n == commands)
  apart n rest e =
      let one : (commands == n) ≡ false = grind (arith, nat_tests) in
      let two : (n == commands) ≡ false = grind (arith, nat_tests) in
      ap (λ b. b && rest) one ∙ sym two

  together : (n : ℕ) (rest : Bool) → n ≡ commands → rest ≡ true → ((commands == n) && rest) ≡ (n == commands)
  together n rest e holds = and_from (commands == n) rest (eq-eqb commands n (sym e)) holds ∙ sym (eq-eqb n commands e)

  both : (n : ℕ) (rest : Bool) → n ≡ commands → rest ≡ true → ((commands == n) && rest) ≡ true
  both n rest e holds = and_from (commands == n) rest (eq-eqb commands n (sym e)) holds

  pub closed_same : (how : How) → ((d : Damage) → how ≡ Fault (Damaged d) → ⊥) → AnsweredLines how limits script commands taken
      → is_closed script (report how) ≡ has_closing how script commands taken
  closed_same Source undamaged is = refl
  closed_same Sink undamaged is = refl
  closed_same End undamaged is = both (length lines) _ (ap length (taken_all script taken is.bytes) ∙ sym is.lines) (used_whole is.bytes)
  closed_same Limit undamaged is = both (length lines) _ (ap length is.answered.lines ∙ length-take-le commands (lines_of script) is.answered.inside) (used_most is.reached)
  closed_same (Fault (Damaged d)) undamaged is = absurd (undamaged d refl)
  closed_same (Fault Device) undamaged (inl left) =
      apart (length lines) _ (ap length left.one_more.lines ∙ length-take-le (commands + 1) (lines_of script) (let i = left.one_more.inside in omega arith))
  closed_same (Fault Device) undamaged (inr (inl is)) =
      together (length lines) _ (ap length (taken_all script taken is.bytes) ∙ sym is.lines) (used_whole is.bytes)
  closed_same (Fault Device) undamaged (inr (inr is)) =
      together (length lines) _ (ap length is.answered.lines ∙ length-take-le commands (lines_of script) is.answered.inside) (used_most is.reached)

  pub same_run : (g : Request) (t : Tree) (how : How) → ((d : Damage) → how ≡ Fault (Damaged d) → ⊥) → AnsweredLines how limits script commands taken
      → run_reported g t script (report how) ≡ run_taken g t how script commands taken
  same_run g t how undamaged is = λ i. closed_where (closed_same how undamaged is i) (run_over g t (same_lines how script commands taken points i))

-- ---- a script within the limits is answered whole

some_line : (x : ℕ) (lines : List (List ℕ)) → 0 < length (onto_first_line x lines)
some_line x [] = omega arith
some_line x (line ∷ lines) = omega arith

one_byte : (x : ℕ) (whole lines : List (List ℕ)) → length whole < length lines → length (onto_whole_line x whole) < length (onto_first_line x lines)
one_byte x [] lines below = some_line x lines
one_byte x (one ∷ whole) [] below = absurd (omega arith)
one_byte x (one ∷ whole) (line ∷ lines) below = below

-- the whole lines of a part are fewer than all the lines
fewer_whole : (script : List ℕ) (n : ℕ) → n < length script → length (whole_lines (take n script)) < length (lines_of script)
fewer_whole [] n below = absurd (omega arith)
fewer_whole (x ∷ script) zero below = elim (x == 10) as (λ t. 0 < length (cond t ([] ∷ lines_of script) (onto_first_line x (lines_of script)))) [
  | true ↦ omega arith
  | false ↦ some_line x (lines_of script)
]
fewer_whole (x ∷ script) (suc n) below =
    let rest = fewer_whole script n (omega arith) in
    elim (x == 10) as (λ t. length (cond t ([] ∷ whole_lines (take n script)) (onto_whole_line x (whole_lines (take n script)))) < length (cond t ([] ∷ lines_of script) (onto_first_line x (lines_of script)))) [
      | true ↦ omega arith
      | false ↦ one_byte x (whole_lines (take n script)) (lines_of script) rest
    ]

pub not_limited : (script : List ℕ) (commands taken : ℕ) → FitsSession script → MeetsLimit limits script commands taken → ⊥
not_limited script commands taken within is =
    let part = is.more in
    let few = within.few in
    let short = within.short in
    elim is.reached [
      | inl lines ↦
          let fewer = fewer_whole script taken part in
          let same = ap length (sym (taken_part script taken part) ∙ is.answered.lines) in
          let inside = is.answered.inside in
          omega (arith, length-take commands (lines_of script))
      | inr bytes ↦ omega arith
    ]
