use Rattle.std.proofs.Common.{ℕ, refl, sym, subst}
use Rattle.edge_words.specs.Orders.{wanted_by}
use Rattle.edge_words.proofs.WordLaws.{no_word, first_one}
use Rattle.edge_words.proofs.NeedLaws.{need_of, spelled_size}
use Rattle.std.specs.Prelude.{IsTrue}
use Rattle.edge_base.specs.layout.Sizes.{is_block_size}
use Rattle.edge_words.proofs.attached.need.Goals as goal

pub returns-in-Ok-len1-up-clause-spelled : goal.returns-in-Ok-len1-up-clause-spelled
returns-in-Ok-len1-up-clause-spelled c =
    need_of (wanted_by c.in-Ok-len1-up.order) _ (first_one c.args.words.now no_word c.in-Ok-len1-up.len_at_least) c.in-Ok-len1-up.ensures.spelled
    c.first_argument.ensures refl c.block_size.ensures c.make_blocks.ensures

pub returns-in-Ok-len1-up-clause-size : goal.returns-in-Ok-len1-up-clause-size
returns-in-Ok-len1-up-clause-size c = subst (λ (n : ℕ). IsTrue (is_block_size n)) (sym c.block_size.ensures) (spelled_size _ (wanted_by c.in-Ok-len1-up.order) c.in-Ok-len1-up.ensures.spelled)
