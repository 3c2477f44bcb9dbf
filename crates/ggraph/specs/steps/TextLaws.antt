-- The laws of ids and names that the proofs of reading a repository text use.
use Rattle.gname.specs.Laws.{IdTextsAreDigits, IdsHaveOneFormat, IdsHaveTexts, NamesAreClean, RulesNeverReportMemory}
use Rattle.gname.specs.Laws.{TextsHaveOneReading, TextsSpellOneId}

pub record TextLaws : Type 0 where
  pub have_texts : IdsHaveTexts
  pub are_digits : IdTextsAreDigits
  pub one_id : TextsSpellOneId
  pub one_format : IdsHaveOneFormat
  pub one_reading : TextsHaveOneReading
  pub clean_names : NamesAreClean
  pub no_memory_rule : RulesNeverReportMemory
