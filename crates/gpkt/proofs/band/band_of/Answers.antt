use Rattle.std.proofs.Common.{◌∙◌}
use Rattle.gpkt.proofs.Bands.{band_form-empty, band_form-first}
use Rattle.gpkt.proofs.band.band_of.Goals as goal

pub returns-in-None : goal.returns-in-None
returns-in-None c = band_form-empty _ c.in-None.ensures.cases

pub returns-in-Some : goal.returns-in-Some
returns-in-Some c = c.band_at.ensures ∙ band_form-first _ _ _ c.in-Some.ensures.cases.0
