-- The refusal of a page as it is told: by its number, and without values.
use Rattle.keys.specs.Refusals.{Code, plain}
use Rattle.page.specs.declared.refusal.PageRefusal.{PageRefusal}
use Rattle.page.specs.declared.refusal.PageRefusal.TheVariants.{DoesNotFit}

-- 13, where a line does not fit whole
abbrev pub code : PageRefusal → Code
code DoesNotFit = plain 13
