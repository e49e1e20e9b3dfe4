use Rattle.std.proofs.Common.{◌≡◌, ◌≢◌, ◌<◌, ℕ, true, None}
use Rattle.edge_plain.specs.KeptView.{view_of}
use Rattle.edge_store.specs.View.{is_number}
use Rattle.edge_plain.proofs.plain_view.PlainView.free_number.Given as goal

abbrev pub invariant-loop-n : goal.invariant-loop-n
invariant-loop-n l = (k : ℕ) → is_number l.self.geometry k ≡ true → k < l.n → (view_of l.self).inodes k ≢ None
