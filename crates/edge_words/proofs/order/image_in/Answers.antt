use Rattle.std.proofs.Common.{Bool, true, false, [], ◌∷◌, ◌≡◌, ◌<◌, length, refl, ◌∙◌, arith}
use Rattle.edge_words.specs.Words.{Word}
use Rattle.edge_words.proofs.WordLaws.{one_reading, is_empty_few}
use Rattle.edge_words.proofs.order.image_in.Goals.{in_default-via-in-Some+then-not-is_empty+else-have_names, in_default-via-in-Some+else-not-is_empty, in_default-via-in_default}
use Rattle.edge_words.proofs.order.image_in.Goals as goal

empty : (word : Word) → length word < 1 → word ≡ []
empty [] few = refl
empty (x ∷ word) few = absurd (omega arith)

first_of_one : {a b : Word} → a ∷ [] ≡ b ∷ [] → a ≡ b
first_of_one e = cc

apart : {b : Bool} → b ≡ true → b ≡ false → ⊥
apart is is_no = cc

pub returns-in_default-clause-refused : goal.returns-in_default-clause-refused
returns-in_default-clause-refused c = λ options image parts.
    elim c.in_default.branch [
      | in_default-via-in-Some+then-not-is_empty+else-have_names w ↦ apart ((w.have_names.ensures options (image ∷ []) parts.parts).1 parts.known) w.if-have_names.false
      | in_default-via-in-Some+else-not-is_empty w ↦
          let same = first_of_one (one_reading parts.parts w.in-Some.ensures.found.1).arguments_are in
          parts.named (same ∙ empty w.in-Some.image.now (is_empty_few (length w.in-Some.image.now) w.is_empty.result w.is_empty.ensures w.if-not-is_empty.false))
      | in_default-via-in_default w ↦ w.in_default.ensures.refused options image parts.parts
    ]
