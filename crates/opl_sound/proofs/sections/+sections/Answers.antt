use Rattle.std.proofs.Common.{arith}
use Rattle.opl_sound.proofs.StepForms.{made}
use Rattle.opl_sound.proofs.sections.+sections.Goals as goal

-- src/sections.rt:105:1
pub element_well_made-returns-then-key_fits : goal.element_well_made-returns-then-key_fits
element_well_made-returns-then-key_fits t c = grind (arith, made)

-- src/sections.rt:105:1
pub element_well_made-returns-else-key_fits : goal.element_well_made-returns-else-key_fits
element_well_made-returns-else-key_fits t c = grind (arith, made)

-- src/sections.rt:105:1
pub element_well_made-returns-else-constraint_fits :
    goal.element_well_made-returns-else-constraint_fits
element_well_made-returns-else-constraint_fits t c = grind (arith, made)

-- src/sections.rt:128:1
pub elements_well_made-returns-then-are_alike : goal.elements_well_made-returns-then-are_alike
elements_well_made-returns-then-are_alike t c = grind (arith, made)

-- src/sections.rt:128:1
pub elements_well_made-returns-else-are_alike : goal.elements_well_made-returns-else-are_alike
elements_well_made-returns-else-are_alike t c = grind (arith, made)

-- src/sections.rt:66:1
pub is_well_made-returns-in-Post : goal.is_well_made-returns-in-Post
is_well_made-returns-in-Post t c = grind (arith, made)

-- src/sections.rt:66:1
pub is_well_made-returns-in-Block : goal.is_well_made-returns-in-Block
is_well_made-returns-in-Block t c = grind (arith, made)

-- src/sections.rt:66:1
pub is_well_made-returns-in-Try : goal.is_well_made-returns-in-Try
is_well_made-returns-in-Try t c = grind (arith, made)

-- src/sections.rt:66:1
pub is_well_made-returns-in-TryAll : goal.is_well_made-returns-in-TryAll
is_well_made-returns-in-TryAll t c = grind (arith, made)

-- src/sections.rt:66:1
pub is_well_made-returns-in-ForAll : goal.is_well_made-returns-in-ForAll
is_well_made-returns-in-ForAll t c = grind (arith, made)

-- src/sections.rt:66:1
pub is_well_made-returns-in-Select : goal.is_well_made-returns-in-Select
is_well_made-returns-in-Select t c = grind (arith, made)

-- src/sections.rt:66:1
pub is_well_made-returns-in-Once : goal.is_well_made-returns-in-Once
is_well_made-returns-in-Once t c = grind (arith, made)

-- src/sections.rt:66:1
pub is_well_made-returns-then-constraint_fits : goal.is_well_made-returns-then-constraint_fits
is_well_made-returns-then-constraint_fits t c = grind (arith, made)

-- src/sections.rt:66:1
pub is_well_made-returns-else-constraint_fits : goal.is_well_made-returns-else-constraint_fits
is_well_made-returns-else-constraint_fits t c = grind (arith, made)

-- src/sections.rt:66:1
pub is_well_made-returns-then-is_well_made : goal.is_well_made-returns-then-is_well_made
is_well_made-returns-then-is_well_made t c = grind (arith, made)

-- src/sections.rt:66:1
pub is_well_made-returns-else-is_well_made : goal.is_well_made-returns-else-is_well_made
is_well_made-returns-else-is_well_made t c = grind (arith, made)

-- src/sections.rt:66:1
pub is_well_made-returns-else-constraint_fits-2 : goal.is_well_made-returns-else-constraint_fits-2
is_well_made-returns-else-constraint_fits-2 t c = grind (arith, made)

-- src/sections.rt:66:1
pub is_well_made-returns-in-Generate : goal.is_well_made-returns-in-Generate
is_well_made-returns-in-Generate t c = grind (arith, made)

-- src/sections.rt:66:1
pub is_well_made-returns-in-Rank : goal.is_well_made-returns-in-Rank
is_well_made-returns-in-Rank t c = grind (arith, made)
