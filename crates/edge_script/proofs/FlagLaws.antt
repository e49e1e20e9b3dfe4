-- A word spells flags exactly where it is read as them.
use Rattle.std.proofs.Common.{◌≡◌, ◌&&◌, cond, length, Some, None, sym, ap, ◌∙◌}
use Rattle.std.specs.Prelude.{nat_le}
use Rattle.std.specs.List.{list_all}
use Rattle.edge_model.specs.declared.command.OpenFlags.{OpenFlags}
use Rattle.edge_script.specs.Numbers.{Word}
use Rattle.edge_script.specs.Flags.{SpellsFlags, flags_in, flags_of, has_byte, flag_letters, are_different}
use Rattle.edge_script.proofs.Tests.{and_parts, chosen, le_of, of_le}

pub flags_read : {word : Word} {flags : OpenFlags} → SpellsFlags word flags → flags_in word ≡ Some flags
flags_read {word} {flags} spells =
    (λ i. cond (of_le 1 (length word) spells.some i && of_le (length word) 6 spells.few i && spells.letters i && spells.different i)
    (Some (flags_of word)) None)
    ∙ ap Some (sym spells.flags_are)

pub flags_spelled : (word : Word) (flags : OpenFlags) → flags_in word ≡ Some flags → SpellsFlags word flags
flags_spelled word flags e =
    let letters = list_all (λ b. has_byte b flag_letters) word in
    let size = nat_le 1 (length word) && nat_le (length word) 6 in
    let c = chosen (size && letters && are_different word) (flags_of word) flags e in
    let outer = and_parts (size && letters) (are_different word) c.0 in
    let middle = and_parts size letters outer.0 in
    let inner = and_parts (nat_le 1 (length word)) (nat_le (length word) 6) middle.0 in
    record { some = le_of _ _ inner.0; few = le_of _ _ inner.1; letters = middle.1; different = outer.1; flags_are = sym c.1 }
