-- A volume as it is made.
use Rattle.std.proofs.Common.{◌≡◌, refl, sym, subst, None}
use Rattle.edge_store.specs.State.{StoreState, Told}
use Rattle.edge_store.specs.View.{View, IsView}
use Rattle.edge_model.specs.State.{first_state}
use Rattle.edge_model.specs.Tree.{Tree}
use Rattle.edge_steps.specs.Room.{LeavesRoom}
use Rattle.edge_steps.proofs.SessionLaws.{first_session}
use Rattle.edge_stands.specs.Session.{StandForState}
use Rattle.edge_stands.proofs.SessionLaws.{as_mounted}
use Rattle.edge_volume.specs.Volume.{VolumeStands, IsOfTree}
use Rattle.edge_calls.specs.State.{made_over}

pub made_stands : (st : StoreState) (t : Tree) → st.under_way ≡ None → st.working ≡ st.committed → Told st → IsView st.origin.request st.committed → LeavesRoom st.origin.request t
    → IsOfTree st.origin.request st.committed t → VolumeStands (made_over st) (first_state t)
made_stands st t whole unchanged told view room is = record {
  store = record {
    told = told;
    whole = whole;
    views = subst (λ (v : View). StandForState st.origin.request st.committed v (first_state t)) (sym unchanged) (as_mounted st.origin.request st.committed t view is.stands);
  };
  session = first_session st.origin.request t is.tree room;
  mask = refl;
  descriptors = refl;
}
