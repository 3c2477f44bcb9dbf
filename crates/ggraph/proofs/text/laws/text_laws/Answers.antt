use Rattle.ggraph.proofs.text.laws.text_laws.Goals as goal

pub returns : goal.returns
returns c = record {
  have_texts = c.ids_have_texts.ensures;
  are_digits = c.id_texts_are_digits.ensures;
  one_id = c.texts_spell_one_id.ensures;
  one_format = c.ids_have_one_format.ensures;
  one_reading = c.texts_have_one_reading.ensures;
  clean_names = c.names_are_clean.ensures;
  no_memory_rule = c.rules_never_report_memory.ensures;
}
