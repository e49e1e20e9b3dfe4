use Rattle.edge_point.specs.ViewLaws.{at_one_place, committed_view, none_under_way, working_view}
use Rattle.edge_point.proofs.views.a_store_over_a_disk_is_a_store.Goals as goal

pub returns-clause-is_geometry : goal.returns-clause-is_geometry
returns-clause-is_geometry g c = λ p is. is.geometry

pub returns-clause-committed_is_view : goal.returns-clause-committed_is_view
returns-clause-committed_is_view g c = λ p is. committed_view g.D.Disk p is (g.met.D.Disk.whole_blocks p.cache.disk)

pub returns-clause-working_is_view : goal.returns-clause-working_is_view
returns-clause-working_is_view g c = λ p is. working_view g.D.Disk p is

pub returns-clause-two_places : goal.returns-clause-two_places
returns-clause-two_places g c = λ p n is. at_one_place g.D.Disk p is n

pub returns-clause-live_is_whole : goal.returns-clause-live_is_whole
returns-clause-live_is_whole g c = λ p is. none_under_way g.D.Disk p is

pub returns-clause-live_is_undamaged : goal.returns-clause-live_is_undamaged
returns-clause-live_is_undamaged g c = λ p is live. is.undamaged live
