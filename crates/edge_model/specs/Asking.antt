-- What asking a command does to the object that answers it.
use Rattle.std.specs.Prelude.{◌≡◌, ◌≤◌, ◌<◌, ℕ, ◌+◌, ◌==◌, ◌||◌, not, Bool, true, false, nat_lt, if◌then◌else◌, List, length, get_or, Option, Some, None, Result, OnOk}
use Rattle.edge_base.specs.declared.damage.Damage.{Damage}
use Rattle.edge_base.specs.declared.refusal.Refusal.TheVariants as no
use Rattle.edge_base.specs.commands.Events as event
use Rattle.edge_model.specs.declared.ask.AskFault.{AskFault}
use Rattle.edge_model.specs.declared.ask.AskFault.TheVariants.{Device, Damaged}
use Rattle.edge_model.specs.declared.command.Answer.{Answer}
use Rattle.edge_model.specs.declared.command.Answer.TheVariants as a
use Rattle.edge_model.specs.declared.command.OpenFlags.{OpenFlags}
use Rattle.edge_model.specs.Asked.{Asked, open_file, close, read, write, fill, seek, open_dir, read_dir, rewind, stat, fstat, space, mask, set_mask}
use Rattle.edge_model.specs.Tree.{Tree}
use Rattle.edge_model.specs.State.{State}

-- the limits of a command
abbrev pub IsInLimits : Asked → Type 0
IsInLimits (read h count) = (1 ≤ count) × (count ≤ 4096)
IsInLimits (write h bytes) = (1 ≤ length bytes) × (length bytes ≤ 4096)
IsInLimits (fill h count byte) = (1 ≤ count) × (count ≤ 65536)
IsInLimits command = Unit {0}

-- ---- faults

-- the damage that a fault tells
abbrev pub damage_of : AskFault → Option Damage
damage_of Device = None
damage_of (Damaged d) = Some d

-- ---- points

abbrev pub tree_at : List Tree → ℕ → Tree
tree_at trees j = get_or trees j (λ n. None)

-- Of trees in order the j-th is the committed one; where a tree is under way, it is the next.
pub record IsAt (is_committed is_under_way : Tree → Type 0) (torn : Bool) (trees : List Tree) (j : ℕ) : Type 0 where
  pub there : j < length trees
  pub committed : is_committed (tree_at trees j)
  pub next : torn ≡ true → (j + 1 < length trees) × is_under_way (tree_at trees (j + 1))

-- Where an Ok leads: to the state of the outcome, with as many points as it has.
pub record HasCome {T : Type 0} (result : Result T AskFault) (stands : State → Type 0) (state : State) (trees : List Tree)
    (points_old points_new : ℕ) : Type 0 where
  pub to_state : OnOk result (stands state)
  pub by_points : OnOk result (points_new ≡ points_old + length trees)

-- ---- the mask and the descriptors

-- only set_mask changes the mask
abbrev pub may_set_mask : Asked → Bool
may_set_mask (set_mask events) = true
may_set_mask command = false

-- only opening and closing changes the open descriptors
abbrev pub may_open_or_close : Asked → Bool
may_open_or_close (open_file path flags) = true
may_open_or_close (open_dir path) = true
may_open_or_close (close h) = true
may_open_or_close command = false

-- the mask after a command that answered Ok
abbrev pub mask_after : ℕ → Asked → ℕ
mask_after old (set_mask new) = if nat_lt event.greatest_mask new then old else new
mask_after old command = old

-- a mask is refused exactly above the greatest, and the one that is set is told
abbrev pub AnswersMask : ℕ → Asked → Answer → Type 0
AnswersMask now (set_mask new) answer = answer ≡ (if nat_lt event.greatest_mask new then a.No no.Invalid else a.Done)
AnswersMask now mask answer = answer ≡ a.Number now
AnswersMask now command answer = Unit {0}

-- the points of a session's end, by its mask
abbrev pub closing_points : ℕ → ℕ
closing_points events = if event.has_event events event.umount then 1 else 0

abbrev pub with_open : (ℕ → Bool) → ℕ → Bool → ℕ → Bool
with_open is_open h now k = if k == h then now else is_open k

-- one more descriptor is open, or a refusal has opened none
abbrev pub HasOpened : Answer → (ℕ → Bool) → (ℕ → Bool) → Type 0
HasOpened (a.Number h) old new = (h < 16) × (old h ≡ false) × (new ≡ with_open old h true)
HasOpened (a.No e) old new = new ≡ old
HasOpened other old new = ⊥

-- the descriptor is closed where it was open, and refused where it was not
abbrev pub HasClosed : ℕ → Answer → (ℕ → Bool) → (ℕ → Bool) → Type 0
HasClosed h answer old new = by_use (old h)
  where
    by_use : Bool → Type 0
    by_use true = (answer ≡ a.Done) × (new ≡ with_open old h false)
    by_use false = (answer ≡ a.No no.BadDescriptor) × (new ≡ old)

-- the open descriptors after an answer
abbrev pub OpensAfter : Asked → Answer → (ℕ → Bool) → (ℕ → Bool) → Type 0
OpensAfter (open_file path flags) answer old new = HasOpened answer old new
OpensAfter (open_dir path) answer old new = HasOpened answer old new
OpensAfter (close h) answer old new = HasClosed h answer old new
OpensAfter command answer old new = new ≡ old

-- the bytes that an answer names lie in the buffer
abbrev pub IsInBuffer : Answer → Type 0
IsInBuffer (a.Bytes k) = k ≤ 4096
IsInBuffer (a.Entry n len) = len ≤ 252
IsInBuffer other = Unit {0}

-- ---- commands that change nothing below

-- an open that neither writes nor makes; without any flag it is refused
abbrev pub only_reads : OpenFlags → Bool
only_reads f = not (f.write || f.create || f.exclusive || f.truncate || f.append)

-- the commands that change no candidate on a clean object
abbrev pub is_quiet : ℕ → Asked → Bool
is_quiet events (open_file path flags) = only_reads flags
is_quiet events (close h) = not (event.has_event events event.close)
is_quiet events (read h count) = true
is_quiet events (seek h to) = true
is_quiet events (open_dir path) = true
is_quiet events (read_dir h) = true
is_quiet events (rewind h) = true
is_quiet events (stat path) = true
is_quiet events (fstat h) = true
is_quiet events space = true
is_quiet events mask = true
is_quiet events command = false
