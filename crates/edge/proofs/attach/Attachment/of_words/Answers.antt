use Rattle.std.proofs.Common.{◌≡◌, ◌+◌, Some, sym, ◌∙◌, ap}
use Rattle.std.proofs.lemmas.Option.{none-some, same_Some}
use Rattle.std.specs.Prelude.{slice_get}
use Rattle.edge_words.specs.Orders.{image_of}
use Rattle.edge.proofs.NameLaws.{at_place}
use Rattle.edge.proofs.attach.Attachment.of_words.Goals as goal
use Rattle.edge.proofs.attach.Attachment.of_words.Goals.{in-Some, in-None}

pub returns-clause-spelled : goal.returns-clause-spelled
returns-clause-spelled c wanted spells =
    let need = c.need-attached.ensures.spelled wanted spells in
    let found = at_place c.args.words.now need.place (image_of wanted) need.is_image in
    elim c.match-attached.branch [
      | in-Some w ↦ let same : w.in-Some.place ≡ 1 + need.place = same_Some w.in-Some.place (1 + need.place) (sym w.in-Some.is ∙ need.image) in
          record {
            name = found.name;
            image = w.image-is ∙ w.word_at-image.ensures ∙ ap (slice_get c.args.words.now) same ∙ found.is;
            named = found.now;
            block_size = need.block_size;
            make_blocks = need.make_blocks;
          }
      | in-None w ↦ absurd (none-some (1 + need.place) (sym w.in-None.is ∙ need.image))
    ]
