-- The lines answered so far, and those that are left of a script.
use Rattle.std.proofs.Common.{◌≡◌, ℕ, zero, suc, ◌+◌, ◌<◌, ◌≤◌, ◌++◌, ◌&&◌, ◌==◌, ◌⊎◌, not, Bool, true, false, cond, List, [], ◌∷◌, length, take, drop, refl, sym, ap, ◌∙◌, subst, arith, append_assoc, get_or, Some, inl, inr}
use Rattle.std.specs.Prelude.{is_some}
use Rattle.std.specs.List.{list_all}
use Rattle.std.proofs.lemmas.Bool.{cases_lt, eqb-true, eq-eqb}
use Rattle.std.proofs.lemmas.List.{length-append, length-drop, take_more, drop_more, take_all, drop_all, drop-drop, drop_at, take_at, flat_map_more, append-nil}
use Rattle.std.proofs.Math.Seq.{take-add}
use Rattle.edge_script.specs.Reading.{command_in}
use Rattle.edge_session.specs.declared.ended.How.{How}
use Rattle.edge_session.specs.declared.ended.How.TheVariants.{End, Source, Sink, Limit, Fault}
use Rattle.edge_session.specs.declared.ended.Limit.{Limit as Most}
use Rattle.edge_session.specs.Script.{lines_of, onto_first_line, whole_lines, onto_whole_line, joined_lines, HoldsLines, lines_taken, line_at}
use Rattle.edge_session.specs.Feeds.{is_line_feed, HasNoLineFeed, TakesUp}
use Rattle.edge_session.specs.Session.{is_fault, TookAnswered, TookOneMore, TurnsEnd, GaveNoLine}
use Rattle.edge_session.specs.Turn.{takes_line, Turns, Progress, FailsBegun, LeavesMore}
use Rattle.edge_session.proofs.LineLaws.{command_in-kept}
use Rattle.edge_session.proofs.StreamLaws.{lines_of-feed}

false_not_true : false ≡ true → ⊥
false_not_true e = cc

-- ---- lines without line feeds

abbrev AllPlain : List (List ℕ) → Type 0
AllPlain [] = Unit {0}
AllPlain (line ∷ lines) = HasNoLineFeed line × AllPlain lines

onto_plain : (x : ℕ) (lines : List (List ℕ)) → is_line_feed x ≡ false → AllPlain lines → AllPlain (onto_first_line x lines)
onto_plain x [] plain all = (ap (λ b. not b && true) plain, tt)
onto_plain x (line ∷ lines) plain all = (ap (λ b. not b && list_all (λ byte. not (is_line_feed byte)) line) plain ∙ all.0, all.1)

all_plain : (script : List ℕ) → AllPlain (lines_of script)
all_plain [] = tt
all_plain (x ∷ script) = elim (is_line_feed x) as (λ t. is_line_feed x ≡ t → AllPlain (cond t ([] ∷ lines_of script) (onto_first_line x (lines_of script)))) [
  | true ↦ λ _. (refl, all_plain script)
  | false ↦ λ e. onto_plain x (lines_of script) e (all_plain script)
] refl

all_plain-take : (k : ℕ) (lines : List (List ℕ)) → AllPlain lines → AllPlain (take k lines)
all_plain-take zero lines all = tt
all_plain-take (suc k) [] all = tt
all_plain-take (suc k) (line ∷ lines) all = (all.0, all_plain-take k lines all.1)

whole_feed : (line rest : List ℕ) → HasNoLineFeed line → whole_lines (line ++ 10 ∷ rest) ≡ line ∷ whole_lines rest
whole_feed [] rest h = refl
whole_feed (x ∷ line) rest h = elim (is_line_feed x) as (λ t. (not t && list_all (λ byte. not (is_line_feed byte)) line) ≡ true
    → cond t ([] ∷ whole_lines (line ++ 10 ∷ rest)) (onto_whole_line x (whole_lines (line ++ 10 ∷ rest))) ≡ (x ∷ line) ∷ whole_lines rest) [
      | true ↦ λ e. absurd (false_not_true e)
      | false ↦ λ e. ap (onto_whole_line x) (whole_feed line rest e)
    ] h

none_whole : (rest : List ℕ) → HasNoLineFeed rest → whole_lines rest ≡ []
none_whole [] h = refl
none_whole (x ∷ rest) h = elim (is_line_feed x) as (λ t. (not t && list_all (λ byte. not (is_line_feed byte)) rest) ≡ true → cond t ([] ∷ whole_lines rest) (onto_whole_line x (whole_lines rest)) ≡ []) [
  | true ↦ λ e. absurd (false_not_true e)
  | false ↦ λ e. ap (onto_whole_line x) (none_whole rest e)
] h

-- lines joined, and a rest behind them
regroup : (line : List ℕ) (lines : List (List ℕ)) (rest : List ℕ) → joined_lines (line ∷ lines) ++ rest ≡ line ++ 10 ∷ (joined_lines lines ++ rest)
regroup line lines rest = append_assoc (line ++ 10 ∷ []) (joined_lines lines) rest ∙ append_assoc line (10 ∷ []) (joined_lines lines ++ rest)

whole_joined : (lines : List (List ℕ)) (rest : List ℕ) → AllPlain lines → HasNoLineFeed rest → whole_lines (joined_lines lines ++ rest) ≡ lines
whole_joined [] rest all plain = none_whole rest plain
whole_joined (line ∷ lines) rest all plain =
    ap whole_lines (regroup line lines rest) ∙ whole_feed line (joined_lines lines ++ rest) all.0 ∙ ap (λ ls. line ∷ ls) (whole_joined lines rest all.1 plain)

lines_joined : (lines : List (List ℕ)) → AllPlain lines → lines_of (joined_lines lines) ≡ lines
lines_joined [] all = refl
lines_joined (line ∷ lines) all =
    ap lines_of (sym (append-nil (joined_lines (line ∷ lines))) ∙ regroup line lines []) ∙ lines_of-feed line (joined_lines lines ++ []) all.0
    ∙ ap (λ ls. line ∷ ls) (ap lines_of (append-nil (joined_lines lines)) ∙ lines_joined lines all.1)

-- ---- the next line

pub record IsNext (lines : List (List ℕ)) (k : ℕ) (line : List ℕ) (rest : List (List ℕ)) : Type 0 where
  pub below : k < length lines
  pub at : get_or lines k [] ≡ line
  pub taken : take (k + 1) lines ≡ take k lines ++ line ∷ []
  pub left : drop (k + 1) lines ≡ rest

next_of : (lines : List (List ℕ)) (k : ℕ) (line : List ℕ) (rest : List (List ℕ)) → drop k lines ≡ line ∷ rest → IsNext lines k line rest
next_of lines k line rest e =
    let below : k < length lines = omega (arith, ap length e, length-drop k lines) in
    let split : get_or lines k [] ∷ drop (k + 1) lines ≡ line ∷ rest = sym (drop_more lines k [] below) ∙ e in
    let same : get_or lines k [] ≡ line = cc in
    record {
      below = below;
      at = same;
      taken = take_more lines k [] below ∙ ap (λ (l : List ℕ). take k lines ++ l ∷ []) same;
      left = let r : drop (k + 1) lines ≡ rest = cc in r;
    }

-- ---- the bytes behind a front

behind : (front before after : List ℕ) → before ≡ front ++ after → after ≡ drop (length front) before
behind front before after e = sym (drop_at front after (length front) refl) ∙ ap (drop (length front)) (sym e)

-- used bytes, and m more of them
module _ (script stream : List ℕ) (used : ℕ) (split : stream ≡ drop used script) where
  further : (front after : List ℕ) (used_after : ℕ) → stream ≡ front ++ after → used_after ≡ used + length front → after ≡ drop used_after script
  further front after used_after e is =
      behind front stream after e ∙ ap (drop (length front)) split ∙ drop-drop (length front) used script ∙ ap (λ (n : ℕ). drop n script) (sym is)

  used_front : (front after : List ℕ) (used_after : ℕ) → stream ≡ front ++ after → used_after ≡ used + length front → take used_after script ≡ take used script ++ front
  used_front front after used_after e is =
      ap (λ (n : ℕ). take n script) is ∙ take-add used (length front) script
      ∙ ap (λ s. take used script ++ take (length front) s) (sym split ∙ e) ∙ ap (λ r. take used script ++ r) (take_at front after (length front) refl)

-- the bytes used are those of the lines, or all
holds_lines : (script stream : List ℕ) (ended : Bool) (k used : ℕ) → k ≤ length (lines_of script) → drop k (lines_of script) ≡ lines_of stream → used + length stream ≡ length script
    → (take used script ≡ joined_lines (take k (lines_of script))) ⊎ ((ended ≡ true) × (stream ≡ [])) → HoldsLines script k used
holds_lines script stream ended k used inside rest count bytes = record {
  inside = inside;
  within = omega arith;
  bytes = elim bytes [
    | inl joined ↦ inl joined
    | inr seen ↦ inr (omega (arith, ap length (rest ∙ ap lines_of seen.1), length-drop k (lines_of script)), omega (arith, ap length seen.1))
  ];
}

-- ---- from turn to turn

pub begins : (script stream : List ℕ) (ended : Bool) (used : ℕ) → stream ≡ script → used ≡ 0 → Progress script stream ended used 0
begins script stream ended used is none = record {
  inside = omega arith;
  rest = ap lines_of (sym is);
  split = is ∙ ap (λ (n : ℕ). drop n script) (sym none);
  count = omega (arith, ap length is);
  bytes = inl (ap (λ (n : ℕ). take n script) none);
}

module _ (script stream : List ℕ) (ended : Bool) (used commands : ℕ) (p : Progress script stream ended used commands) where
  pub next_by : (line stream_after : List ℕ) (ended_after : Bool) (used_after : ℕ) → TakesUp line stream stream_after ended_after used used_after → IsNext (lines_of script) commands line (lines_of stream_after)
  next_by line stream_after ended_after used_after t = next_of (lines_of script) commands line (lines_of stream_after) (p.rest ∙ t.lines)

  -- the bytes with the line that was taken up
  bytes_more : (line stream_after : List ℕ) (ended_after : Bool) (used_after : ℕ) → TakesUp line stream stream_after ended_after used used_after
      → (take used_after script ≡ joined_lines (take (commands + 1) (lines_of script))) ⊎ ((ended_after ≡ true) × (stream_after ≡ []))
  bytes_more line stream_after ended_after used_after t = elim t.bytes [
    | inl e ↦
        let fed : stream ≡ (line ++ 10 ∷ []) ++ stream_after = e ∙ sym (append_assoc line (10 ∷ []) stream_after) in
        let u = t.used in
        let more : used_after ≡ used + length (line ++ 10 ∷ []) = omega (arith, ap length fed, length-append (line ++ 10 ∷ []) stream_after) in
        elim p.bytes [
          | inl joined ↦ inl (used_front script stream used p.split (line ++ 10 ∷ []) stream_after used_after fed more
              ∙ ap (λ b. b ++ (line ++ 10 ∷ [])) joined ∙ flat_map_more (λ l. l ++ 10 ∷ []) [] (take commands (lines_of script)) line
              ∙ ap joined_lines (sym (next_by line stream_after ended_after used_after t).taken))
          | inr seen ↦ absurd (omega (arith, ap length (sym seen.1 ∙ fed), length-append (line ++ 10 ∷ []) stream_after, length-append line (10 ∷ [])))
        ]
    | inr last ↦ inr (last.2, last.1)
  ]

  split_more : (line stream_after : List ℕ) (ended_after : Bool) (used_after : ℕ) → TakesUp line stream stream_after ended_after used used_after → stream_after ≡ drop used_after script
  split_more line stream_after ended_after used_after t = elim t.bytes [
    | inl e ↦
        let fed : stream ≡ (line ++ 10 ∷ []) ++ stream_after = e ∙ sym (append_assoc line (10 ∷ []) stream_after) in
        let u = t.used in
        further script stream used p.split (line ++ 10 ∷ []) stream_after used_after fed (omega (arith, ap length fed, length-append (line ++ 10 ∷ []) stream_after))
    | inr last ↦
        let u = t.used in
        let c = p.count in
        last.1 ∙ sym (drop_all used_after script (omega (arith, ap length last.1)))
  ]

  pub goes_on : (line stream_after : List ℕ) (ended_after : Bool) (used_after : ℕ) → TakesUp line stream stream_after ended_after used used_after
      → Progress script stream_after ended_after used_after (commands + 1)
  goes_on line stream_after ended_after used_after t =
      let next = next_by line stream_after ended_after used_after t in
      let inside = next.below in
      let c = p.count in
      let u = t.used in
      record {
        inside = omega arith;
        rest = next.left;
        split = split_more line stream_after ended_after used_after t;
        count = omega arith;
        bytes = bytes_more line stream_after ended_after used_after t;
      }

-- ---- the lines taken

taken_failed : (script : List ℕ) (taken : ℕ) → lines_taken script taken true ≡ whole_lines (take taken script)
taken_failed script taken = elim (taken == length script) as (λ t. cond (t && false) (lines_of script) (whole_lines (take taken script)) ≡ whole_lines (take taken script)) [ true ↦ refl | false ↦ refl ]

pub taken_part : (script : List ℕ) (taken : ℕ) → taken < length script → lines_taken script taken false ≡ whole_lines (take taken script)
taken_part script taken part = elim (taken == length script) as (λ t. (taken == length script) ≡ t → cond (t && true) (lines_of script) (whole_lines (take taken script)) ≡ whole_lines (take taken script)) [
  | true ↦ λ e. absurd (let same = eqb-true taken (length script) e in omega arith)
  | false ↦ λ e. refl
] refl

pub taken_all : (script : List ℕ) (taken : ℕ) → taken ≡ length script → lines_taken script taken false ≡ lines_of script
taken_all script taken all = ap (λ t. cond (t && true) (lines_of script) (whole_lines (take taken script))) (eq-eqb taken (length script) all)

module _ (script stream : List ℕ) (ended : Bool) (used commands : ℕ) (p : Progress script stream ended used commands) where
  plain : (k : ℕ) → AllPlain (take k (lines_of script))
  plain k = all_plain-take k (lines_of script) (all_plain script)

  -- the bytes used with a rest of no whole line
  only_answered : (begun : List ℕ) → take used script ≡ joined_lines (take commands (lines_of script)) → HasNoLineFeed begun → whole_lines (take used script ++ begun) ≡ take commands (lines_of script)
  only_answered begun joined no_feed = ap (λ b. whole_lines (b ++ begun)) joined ∙ whole_joined (take commands (lines_of script)) begun (plain commands) no_feed

  pub one_more : (line stream_after : List ℕ) (ended_after : Bool) (used_after : ℕ) → TakesUp line stream stream_after ended_after used used_after → TookOneMore script commands used_after
  one_more line stream_after ended_after used_after t =
      let next = next_by script stream ended used commands p line stream_after ended_after used_after t in
      let c = p.count in
      let u = t.used in
      let lines : lines_taken script used_after false ≡ take (commands + 1) (lines_of script) =
      elim (bytes_more script stream ended used commands p line stream_after ended_after used_after t) [
        | inl joined ↦ elim (cases_lt used_after (length script)) [
          | inl part ↦ taken_part script used_after part ∙ ap whole_lines (sym (append-nil (take used_after script)))
              ∙ ap (λ b. whole_lines (b ++ [])) joined ∙ whole_joined (take (commands + 1) (lines_of script)) [] (plain (commands + 1)) refl
          | inr all ↦ taken_all script used_after (omega arith) ∙ ap lines_of (sym (take_all used_after script all) ∙ joined) ∙ lines_joined (take (commands + 1) (lines_of script)) (plain (commands + 1))
        ]
        | inr seen ↦ taken_all script used_after (omega (arith, ap length seen.1))
            ∙ sym (take_all (commands + 1) (lines_of script) (omega (arith, ap length (next.left ∙ ap lines_of seen.1), length-drop (commands + 1) (lines_of script))))
      ] in
      let below = next.below in
      record {
        inside = below;
        lines = lines;
        bytes = holds_lines script stream_after ended_after (commands + 1) used_after (omega arith) next.left (omega arith)
            (bytes_more script stream ended used commands p line stream_after ended_after used_after t);
      }

  pub holds_answered : HoldsLines script commands used
  holds_answered = holds_lines script stream ended commands used p.inside p.rest p.count p.bytes

  -- the next line is the one that was taken up
  pub is_next : (line stream_after : List ℕ) (ended_after : Bool) (used_after : ℕ) → TakesUp line stream stream_after ended_after used used_after → line_at script commands ≡ line
  is_next line stream_after ended_after used_after t = (next_by script stream ended used commands p line stream_after ended_after used_after t).at

  -- a limit was met, where more is left
  met : (stream_after : List ℕ) (used_after : ℕ) → LeavesMore stream stream_after used used_after → TookAnswered script commands used_after false × (used_after < length script)
  met stream_after used_after t =
      let c = p.count in
      let u = t.used_is in
      let m = t.more in
      let whole = ap length t.split ∙ length-append t.begun stream_after in
      let part : used_after < length script = omega arith in
      let joined : take used script ≡ joined_lines (take commands (lines_of script)) = elim p.bytes [
        | inl joined ↦ joined
        | inr seen ↦ absurd (omega (arith, ap length seen.1))
      ] in
      (record { inside = p.inside; lines = taken_part script used_after part ∙ ap whole_lines (used_front script stream used p.split t.begun stream_after used_after t.split t.used_is) ∙ only_answered t.begun joined t.no_feed }, part)

  failed : (left : List ℕ) → FailsBegun ended stream left → TookAnswered script commands used true
  failed left t =
      let joined : take used script ≡ joined_lines (take commands (lines_of script)) = elim p.bytes [
        | inl joined ↦ joined
        | inr seen ↦ absurd (t.not_ended seen.0)
      ] in
      record { inside = p.inside; lines = taken_failed script used ∙ ap whole_lines (sym (append-nil (take used script))) ∙ only_answered [] joined refl }

  pub gave_no_line : (left : List ℕ) → FailsBegun ended stream left → GaveNoLine script left used
  gave_no_line left t = record { begun = t.begun; split = sym p.split ∙ t.split; no_feed = t.no_feed }

  -- the lines that are answered, and those taken, by the turn that ended it
  module _ (most : Most) (stream_after left kept : List ℕ) (ended_after : Bool) (used_after taken : ℕ) where
    pub ends : (how : How) → (how ≡ Source → taken ≡ used) → ((how ≡ Source → ⊥) → taken ≡ used_after) → Turns (Some how) stream stream_after left kept ended ended_after used used_after
        → (is_fault how ≡ true → is_some (command_in kept) ≡ true) → (takes_line (Some how) ≡ true → commands < most.lines)
        → (how ≡ Limit → (commands ≡ most.lines) ⊎ (taken ≡ most.bytes)) → TurnsEnd how most script commands taken
    ends End source other t spells room reached =
        let same = other (λ e. cc) in
        let i = p.inside in
        let c = p.count in
        let u = t.used_is in
        record {
          lines = omega (arith, ap length (p.rest ∙ ap lines_of t.none), length-drop commands (lines_of script));
          bytes = omega (arith, ap length t.none);
        }
    ends Source source other t spells room reached =
        subst (λ (n : ℕ). TurnsEnd Source most script commands n) (sym (source refl)) (record { answered = failed left t; bytes = holds_answered })
    ends Limit source other t spells room reached =
        let same = other (λ e. cc) in
        let m = met stream_after used_after t in
        record {
          answered = subst (λ (n : ℕ). TookAnswered script commands n false) (sym same) m.0;
          reached = reached refl;
          more = let part = m.1 in omega arith;
        }
    ends Sink source other t spells room reached =
        subst (λ (n : ℕ). TurnsEnd Sink most script commands n) (sym (other (λ e. cc))) (one_more t.line stream_after ended_after used_after t.takes)
    ends (Fault fault) source other t spells room reached = record {
      one_more = subst (λ (n : ℕ). TookOneMore script commands n) (sym (other (λ e. cc))) (one_more t.line stream_after ended_after used_after t.takes);
      spells = ap is_some (ap command_in (is_next t.line stream_after ended_after used_after t.takes) ∙ sym (command_in-kept t.line) ∙ ap command_in (sym t.kept_is)) ∙ spells refl;
      room = room refl;
    }
