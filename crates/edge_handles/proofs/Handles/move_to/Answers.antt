use Rattle.std.proofs.Common.{◌≡◌, ◌∙◌, ap, set, Some}
use Rattle.std.specs.Option.{option_map}
use Rattle.edge_base.specs.commands.Descriptors.{Descriptor, descriptor_at}
use Rattle.edge_handles.specs.Table.{descriptor_of}
use Rattle.edge_handles.proofs.TableLaws.{put-slot}
use Rattle.edge_handles.proofs.Handles.move_to.Goals as goal

pub returns-clause-moved : goal.returns-clause-moved
returns-clause-moved c = λ d is.
    let same : descriptor_of c.in-Some.slot ≡ d = let told : option_map descriptor_of (Some c.in-Some.slot) ≡ descriptor_at c.args.self.now c.args.h = c.in-Some.ensures in cc in
    put-slot c.self.inside.slots c.args.self.now c.args.h _ c.self.view_is ∙ ap (λ (e : Descriptor). set c.args.self.now c.args.h (Some (record e { at = c.args.at }))) same
