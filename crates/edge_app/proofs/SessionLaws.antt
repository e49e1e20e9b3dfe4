-- What `run` promises, from what mounting, the session and the store promise.
use Rattle.std.proofs.Common.{◌≡◌, ◌⊎◌, inl, ℕ, ◌+◌, ◌-◌, ◌*◌, ◌<◌, ◌≤◌, ◌^◌, Bool, true, false, not, cond, List, [], length, Some, None, refl, sym, ap, ◌∙◌, subst, arith}
use Rattle.std.specs.Prelude.{IsTrue, is_some}
use Rattle.std.specs.List.{All}
use Rattle.std.proofs.lemmas.Bool.{false≢true}
use Rattle.edge_base.specs.declared.damage.Damage.{Damage}
use Rattle.edge_base.specs.declared.geometry.Request.{Request}
use Rattle.edge_base.specs.declared.node.Master.{Master}
use Rattle.edge_disk.specs.Disk.{Origin}
use Rattle.edge_disk.specs.Image.{Image}
use Rattle.edge_disk.specs.State.{IsSettled, disk_of, shown_by}
use Rattle.edge_disk.specs.declared.disk.Disk.{Ghosts}
use Rattle.edge_store.specs.Damages.{IsDamage}
use Rattle.edge_store.specs.State.{HasDamage, IsMade, Told}
use Rattle.edge_store.specs.View.{View}
use Rattle.edge_model.specs.Asking.{IsAt}
use Rattle.edge_model.specs.Rules.{IsTree}
use Rattle.edge_model.specs.Tree.{Tree}
use Rattle.edge_model.specs.declared.ask.AskFault.TheVariants.{Damaged}
use Rattle.edge_image.specs.Image.{Live}
use Rattle.edge_image.specs.Opens.{OpensTo, StandsFor}
use Rattle.edge_image.specs.View.{view_of}
use Rattle.edge_image.proofs.ReasonLaws.{mountable}
use Rattle.edge_mount.specs.Mounting.{live_at}
use Rattle.edge_steps.specs.Room.{LeavesRoom}
use Rattle.edge_volume.specs.Volume.{IsOfTree, IsSomeOfTree}
use Rattle.edge_anchor.specs.Opens.{OpensAs}
use Rattle.edge_point.specs.Mounted.{MountsPoint}
use Rattle.edge_point.specs.Seen.{IsGuarded, anchor_of, last_view, origin_of, state_of}
use Rattle.edge_point.specs.Standing.{IsPoint}
use Rattle.edge_point.specs.declared.parts.Parts.{Parts}
use Rattle.edge_session.specs.declared.ended.How.{How}
use Rattle.edge_session.specs.declared.ended.How.TheVariants.{End, Source, Sink, Limit, Fault}
use Rattle.edge_session.specs.Line.{moments_of, moments_after}
use Rattle.edge_session.specs.Object.{SourceCount, SinkCount, ObjectCount, most_points}
use Rattle.edge_session.specs.Script.{HoldsLines}
use Rattle.edge_session.specs.Session.{AnsweredLines, GaveNoLine, TookText, has_closing, is_fault, lines_by, run_before, run_taken}
use Rattle.edge_app.specs.Causes.{HasCauses, JudgesImage}
use Rattle.edge_app.specs.Headline.{Answers, Headline, IsSoundStart, trees_at_points}
use Rattle.edge_app.specs.Report.{damage_by, served_by}
use Rattle.edge_app.specs.Runs.{Runs}
use Rattle.edge_app.specs.Script.{limits}
use Rattle.edge_app.specs.World.{World, TellsBytes}
use Rattle.edge_app.specs.declared.report.Report.{Report}
use Rattle.edge_app.specs.declared.run_command.TheConstants.{MOST_LINES, MOST_BYTES}
use Rattle.edge_app.proofs.LineLaws.{same_lines}
use Rattle.edge_app.proofs.PointLaws.{disk_origin, geometry_same, images_left, last_opens, opens_room, same_live, same_master, sequence_same, shown_in, told_view}
use Rattle.edge_app.proofs.RoomLaws.{trees_room}
use Rattle.edge_app.proofs.ServedLaws.{answers_served, complete_served, same_trees}
use Rattle.edge_app.proofs.StatusLaws.{device_counts, is_at_limit, is_end, is_of_sink, known, met, not_refused, of_device, sink_counts, some_session, source_counts, undamaged}

-- ---- a volume that was just mounted

module _ {D : Type 0} (g : Ghosts D) (disk : D) (p : Parts D) (mounts : MountsPoint g disk p) (shows : IsTrue (g.origin disk).shows) (t : Tree)
    (opens : OpensTo (shown_by (disk_of g disk)) t) where
  abbrev image : Image
  image = shown_by (disk_of g disk)

  pub geometry_is : p.master.geometry ≡ opens.master.geometry
  geometry_is = ap (λ (m : Master). m.geometry) (same_master image t opens p.master (live_at p.place p.root) (mounts.volume shows))

  pub sequence_is : p.root.sequence ≡ opens.live.root.sequence
  sequence_is = ap (λ (l : Live). l.root.sequence) (same_live image t opens p.master (live_at p.place p.root) (mounts.volume shows))

  pub mounted_room : LeavesRoom p.master.geometry t
  mounted_room = subst (λ (r : Request). LeavesRoom r t) (sym geometry_is) (opens_room image t opens)

  pub mounted_tells : (g.origin p.cache.disk).shows ≡ true
  mounted_tells = ap (λ (o : Origin). o.shows) mounts.untouched.origin ∙ shows

  pub mounted_of_tree : IsOfTree p.master.geometry (state_of g p).committed t
  mounted_of_tree =
      let live = same_live image t opens p.master (live_at p.place p.root) (mounts.volume shows) in
      let there : view_of opens.master.geometry image opens.live ≡ view_of p.master.geometry image (live_at p.place p.root)
      = λ i. view_of (sym geometry_is i) image (sym live i) in
      let view : view_of opens.master.geometry image opens.live ≡ (state_of g p).committed
      = there ∙ sym (mounts.view shows) ∙ sym (told_view (g.origin p.cache.disk).shows (last_view g p) mounted_tells) in
      record {
        tree = subst (λ (r : Request). IsTree r t) (sym geometry_is) opens.tree;
        stands = subst (λ (v : View). StandsFor p.master.geometry v t) view
            (subst (λ (r : Request). StandsFor r (view_of opens.master.geometry image opens.live) t) (sym geometry_is) opens.stands);
      }

-- What a session leaves of a store that stood for a tree, by the run over the lines taken.
pub record LeavesTrees {D : Type 0} (g : Ghosts D) (q : Parts D) (request : Request) (t : Tree) (how : How) (script : List ℕ) (commands taken : ℕ) : Type 0 where
  pub at : IsAt (IsOfTree (state_of g q).origin.request (state_of g q).committed) (IsSomeOfTree (state_of g q).origin.request (state_of g q).under_way)
      (is_some (state_of g q).under_way) (run_taken request t how script commands taken).trees q.points
  pub least : length (run_before request t script commands).trees ≤ q.points + 1
  pub whole : is_fault how ≡ false → q.points + 1 ≡ length (run_taken request t how script commands taken).trees

few_of : (how : How) (points commands : ℕ) → commands ≤ MOST_LINES → points ≤ most_points how commands → points ≤ 2 * MOST_LINES + 2
few_of End points commands few most = omega arith
few_of Source points commands few most = omega arith
few_of Sink points commands few most = omega arith
few_of Limit points commands few most = omega arith
few_of (Fault fault) points commands few most = omega arith

-- a store with a point under way has ended
ended_by : (torn live : Bool) (v : View) → (live ≡ true → torn ≡ false) → is_some (cond torn (Some v) None) ≡ true → live ≡ false
ended_by torn false v untorn some = refl
ended_by true true v untorn some = absurd (false≢true (sym (untorn refl)))
ended_by false true v untorn some = absurd (false≢true some)

of_not : (x : Bool) → not x ≡ false → x ≡ true
of_not true e = refl
of_not false e = absurd (false≢true (sym e))

pub leaves_trees : {D : Type 0} (g : Ghosts D) (q : Parts D) (request : Request) (t : Tree) (how : How) (script : List ℕ) (commands taken n : ℕ) → n ≡ 0
    → IsAt (IsOfTree (state_of g q).origin.request (state_of g q).committed) (IsSomeOfTree (state_of g q).origin.request (state_of g q).under_way)
    (is_some (state_of g q).under_way) (run_taken request t how script commands taken).trees (q.points - n)
    → n + length (run_before request t script commands).trees ≤ q.points + 1
    → (is_fault how ≡ false → q.points + 1 ≡ n + length (run_taken request t how script commands taken).trees)
    → LeavesTrees g q request t how script commands taken
leaves_trees g q request t how script commands taken n zero at least whole = record {
  at = let same : q.points - n ≡ q.points = omega arith in
      subst (λ (k : ℕ). IsAt (IsOfTree (state_of g q).origin.request (state_of g q).committed) (IsSomeOfTree (state_of g q).origin.request (state_of g q).under_way)
      (is_some (state_of g q).under_way) (run_taken request t how script commands taken).trees k) same at;
  least = omega arith;
  whole = λ fine. let w = whole fine in omega arith;
}

-- ---- all of a session

module _ {D : Type 0} (g : Ghosts D) (b a : World) (disk : D) (p q : Parts D) (how : How) (commands taken : ℕ)
    (mounts : MountsPoint g disk p) (point : IsPoint g q) (origin : origin_of g q ≡ origin_of g p)
    (source : SourceCount how b.source.faults a.source.faults) (sink : SinkCount how b.sink.faults a.sink.faults)
    (object : ObjectCount how (g.faults p.cache.disk) (g.faults q.cache.disk) p.damage q.damage) (live : q.live ≡ not (is_fault how))
    (few : commands ≤ MOST_LINES) (short : taken ≤ MOST_BYTES) (room : how ≡ Sink → commands < MOST_LINES)
    (reached : how ≡ Limit → (commands ≡ MOST_LINES) ⊎ (taken ≡ MOST_BYTES))
    (limit_bytes : IsTrue b.source.tells → how ≡ Limit → HoldsLines b.source.left commands taken ⊎ (taken ≡ MOST_BYTES))
    (end : IsTrue b.source.tells → how ≡ End → a.source.left ≡ [])
    (lines : IsTrue b.source.tells → AnsweredLines how limits b.source.left commands taken)
    (no_more : IsTrue b.source.tells → how ≡ Source → GaveNoLine b.source.left a.source.left taken)
    (few_points : q.points ≤ most_points how commands)
    (moments : IsTrue b.source.tells → IsTrue b.clock.tells → a.clock.moments ≡ moments_after (moments_of (lines_by how b.source.left taken)) b.clock.moments)
    (guarded : IsGuarded g p → IsGuarded g q)
    (shown : q.live ≡ true → IsTrue (g.origin q.cache.disk).shows → OpensAs (anchor_of g q) (last_view g q) (shown_by (disk_of g q.cache.disk)))
    (there : (d : Damage) → how ≡ Fault (Damaged d) → Told (state_of g q) → HasDamage (state_of g q) d)
    (none_damaged : IsTrue (g.origin disk).shows → (t : Tree) → OpensTo (shown_by (disk_of g disk)) t → (d : Damage) → how ≡ Fault (Damaged d) → ⊥)
    (text : IsTrue (g.origin disk).shows → IsTrue b.source.tells → IsTrue b.sink.tells → (t : Tree) → OpensTo (shown_by (disk_of g disk)) t
    → TookText how p.master.geometry t b.source.left commands b.sink.taken a.sink.taken)
    (leaves : IsTrue (g.origin disk).shows → IsTrue b.source.tells → (t : Tree) → OpensTo (shown_by (disk_of g disk)) t
    → LeavesTrees g q p.master.geometry t how b.source.left commands taken) where
  abbrev before : World
  before = record b { disk = disk_of g disk }

  abbrev after : World
  after = record a { disk = disk_of g q.cache.disk }

  abbrev report : Report
  report = served_by how commands taken q.points

  origin_after : g.origin q.cache.disk ≡ g.origin disk
  origin_after = disk_origin g p q origin ∙ mounts.untouched.origin

  tells_after : IsTrue (g.origin disk).shows → (g.origin q.cache.disk).shows ≡ true
  tells_after shows = ap (λ (o : Origin). o.shows) origin_after ∙ shows

  object_after : ObjectCount how (g.faults disk) (g.faults q.cache.disk) p.damage q.damage
  object_after = subst (λ (n : ℕ). ObjectCount how n (g.faults q.cache.disk) p.damage q.damage) mounts.no_fault object

  pub causes_served : HasCauses before after report
  causes_served = record {
    source = source_counts how _ _ source;
    sink = sink_counts how _ _ sink;
    device = device_counts how _ _ p.damage q.damage object_after;
    reason = λ _. refl;
    damage = undamaged how;
    origin = origin_after;
  }

  judged : IsTrue (g.origin disk).shows → JudgesImage before.disk after.disk report
  judged shows = record {
    refused = λ e. absurd (not_refused how e);
    served = λ session. mountable (shown_by (disk_of g disk)) (p.master, live_at p.place p.root, mounts.volume shows);
    damaged = λ e.
        let m = met how e in
        record {
          master = p.master;
          is_master = (mounts.volume shows).is_master;
          places = (state_of g q).places;
          committed = (state_of g q).committed;
          working = (state_of g q).working;
          shown = shown_in g q (tells_after shows);
          damage = m.damage;
          told_is = ap damage_by m.how_is;
          there = subst (λ (r : Request). IsDamage r (state_of g q).places (state_of g q).committed (state_of g q).working m.damage) (geometry_same g p q origin)
              (there m.damage m.how_is (tells_after shows));
        };
    opens = λ t opens. (λ e. let m = met how e in none_damaged shows t opens m.damage m.how_is, not_refused how);
  }

  module _ (told : TellsBytes before) (t : Tree) (opens : OpensTo (shown_by (disk_of g disk)) t) where
    abbrev request : Request
    request = opens.master.geometry

    geometry : p.master.geometry ≡ request
    geometry = geometry_is g disk p mounts told.disk t opens

    text_is : TookText how request t b.source.left commands b.sink.taken a.sink.taken
    text_is = subst (λ (r : Request). TookText how r t b.source.left commands b.sink.taken a.sink.taken) geometry (text told.disk told.source told.sink t opens)

    left_is : LeavesTrees g q request t how b.source.left commands taken
    left_is = subst (λ (r : Request). LeavesTrees g q r t how b.source.left commands taken) geometry (leaves told.disk told.source t opens)

    answers : Answers request t before after report
    answers = answers_served before after how commands taken q.points request t (none_damaged told.disk t opens) (lines told.source) (no_more told.source) text_is left_is.least left_is.whole

    trees_same : trees_at_points request t before report ≡ (run_taken request t how b.source.left commands taken).trees
    trees_same = same_trees before after how commands taken q.points request t (none_damaged told.disk t opens) (lines told.source) (no_more told.source) text_is left_is.least left_is.whole

    at_points : IsAt (IsOfTree (state_of g q).origin.request (state_of g q).committed) (IsSomeOfTree (state_of g q).origin.request (state_of g q).under_way)
        (is_some (state_of g q).under_way) (trees_at_points request t before report) q.points
    at_points = subst (λ (trees : List Tree). IsAt (IsOfTree (state_of g q).origin.request (state_of g q).committed) (IsSomeOfTree (state_of g q).origin.request (state_of g q).under_way)
        (is_some (state_of g q).under_way) trees q.points) (sym trees_same) left_is.at

    all_room : All (LeavesRoom request) (trees_at_points request t before report)
    all_room = subst (λ (trees : List Tree). All (LeavesRoom request) trees) (sym trees_same)
        (trees_room request t (lines_by how b.source.left taken) (has_closing how b.source.left commands taken) (opens_room (shown_by (disk_of g disk)) t opens))

    sequence_few : p.points ≡ 0 → opens.live.root.sequence ≤ 2 ^ 62 → q.root.sequence + 1 ≤ 2 ^ 63
    sequence_few zero small =
        let same = sequence_same g p q origin in
        let first = sequence_is g disk p mounts told.disk t opens in
        let most = few_of how q.points commands few few_points in
        let inside = point.points in
        omega arith

  headline : (made : IsMade (state_of g p)) → TellsBytes before → (t : Tree) (start : IsSoundStart before.disk t)
      → Headline start.sound.opens.master.geometry t before after report
  headline made told t start =
      let opens = start.sound.opens in
      let g_is = opens.master.geometry in
      let settled : IsSettled (disk_of g disk) = record { told = record { shows = told.disk; keeps = start.keeps; no_fault = start.sound.no_fault }; sure = start.sound.sure } in
      let guard = guarded (mounts.guarded settled) in
      let same : q.master.geometry ≡ g_is = geometry_same g p q origin ∙ geometry told t opens in
      let room_all = all_room told t opens in
      let few_numbers = sequence_few told t opens made.points start.sequence in
      let at = at_points told t opens in
      let all = answers told t opens in
      record {
        replies = all.replies;
        images = images_left g q (tells_after told.disk) g_is same (trees_at_points g_is t before report) room_all few_numbers at report refl
            (λ torn. of_device how (none_damaged told.disk t opens) (failed torn)) (disk_of g q.cache.disk) guard.cut;
        points = all.points;
        whole = λ done. record {
          script = all.whole done;
          last = all.points.all (λ five. let z = sym done ∙ five in omega arith);
          stored = last_opens g q (tells_after told.disk) g_is same (trees_at_points g_is t before report) room_all few_numbers at
              (shown_by (disk_of g q.cache.disk)) (shown (live ∙ ap (λ (h : How). not (is_fault h)) (is_end how done)) (tells_after told.disk));
        };
      }
    where
      failed : is_some (state_of g q).under_way ≡ true → is_fault how ≡ true
      failed torn = of_not (is_fault how) (sym live ∙ ended_by q.torn q.live _ point.untorn torn)

  pub runs_served : IsMade (state_of g p) → Runs before after report
  runs_served made = record {
    status = known how;
    limits = record { bytes = short; lines = few; one_more = λ e. room (is_of_sink how e); reached = λ e. reached (is_at_limit how e) };
    unserved = λ none. absurd (false≢true (sym (some_session how) ∙ none));
    end = λ done tells. end tells (is_end how done);
    lines = λ tells. inl (record { how = how; report = refl; lines = lines tells; limit = limit_bytes tells; no_more = no_more tells });
    clock = λ tells ticks. moments tells ticks
        ∙ ap (λ (taken_lines : List (List ℕ)). moments_after (moments_of taken_lines) b.clock.moments) (sym (same_lines how b.source.left commands taken q.points));
    image = judged;
    answers = answers;
    complete = λ told t opens within none. complete_served how before after commands taken p.damage q.damage (none_damaged told.disk t opens) (lines told.source) source sink object_after within none;
    headline = headline made;
  }

  pub both_served : IsMade (state_of g p) → HasCauses before after report × Runs before after report
  both_served made = (causes_served, runs_served made)
