-- The least number without an inode.
use Rattle.std.proofs.Common.{◌≡◌, ℕ, ◌+◌, true, Option, Some, None, refl, sym, ap, ◌∙◌, subst}
use Rattle.std.specs.Prelude.{IsTrue, IfOk, OnOk, Result, Ok, Err, is_none}
use Rattle.edge_base.specs.declared.geometry.Request.{Request}
use Rattle.edge_disk.specs.declared.disk.Disk.{Ghosts}
use Rattle.edge_image.specs.Image.{is_free}
use Rattle.edge_imap.specs.Search.{FindsLeast}
use Rattle.edge_nodes.proofs.GeometryLaws.{limits}
use Rattle.edge_store.specs.View.{Inode, is_number}
use Rattle.edge_store.specs.declared.fault.StoreFault.{StoreFault}
use Rattle.edge_anchor.proofs.PlaceLaws.{number_within}
use Rattle.edge_point.specs.Changing.{IsFirstFree, working_of}
use Rattle.edge_point.specs.Seen.{state_of}
use Rattle.edge_point.specs.Standing.{IsPoint}
use Rattle.edge_point.specs.declared.parts.Parts.{Parts}
use Rattle.edge_point.proofs.RoomLaws.{none_told, within}

has_none : (x : Option Inode) → is_none x ≡ true → x ≡ None
has_none None e = refl
has_none (Some i) e = absurd (cc e)

-- what is said of the number that is answered is said of the answer
pub answered_as : {A : Type 0} (r : Result (Option ℕ) StoreFault) (n : ℕ) (P : Option ℕ → Type 0) → IfOk r (λ found. found ≡ Some n) → OnOk r A → (A → P (Some n)) → IfOk r P
answered_as (Ok found) n P is a f = subst P (sym is) (f a)
answered_as (Err e) n P is a f = tt

module _ {D : Type 0} (g : Ghosts D) (p : Parts D) (is : IsPoint g p) (live : p.live ≡ true) (shows : IsTrue (g.origin p.cache.disk).shows) where
  abbrev request : Request
  request = p.master.geometry

  pub first_free : (found : Option ℕ) → FindsLeast (is_free request (working_of g p)) 2 (2 + request.inodes) found → IsFirstFree request (state_of g p).working found
  first_free None none = λ n number absent.
      let own = number_within request (limits request is.geometry) n number in
      cc (sym (none n own.0 own.1) ∙ none_told g p is live shows n number, ap is_none absent)
  first_free (Some i) least =
      let number : is_number request i ≡ true = within 2 request.inodes i least.at_least least.below in
      record {
        number = number;
        absent = has_none ((state_of g p).working.inodes i) (sym (none_told g p is live shows i number) ∙ least.passes);
        least = λ k is_one less absent.
            let own = number_within request (limits request is.geometry) k is_one in
            cc (sym (least.first k own.0 less) ∙ none_told g p is live shows k is_one, ap is_none absent);
      }

  pub still_free : (n : ℕ) → is_number request n ≡ true → (state_of g p).working.inodes n ≡ None → is_free request (working_of g p) n ≡ true
  still_free n number absent = none_told g p is live shows n number ∙ ap is_none absent
