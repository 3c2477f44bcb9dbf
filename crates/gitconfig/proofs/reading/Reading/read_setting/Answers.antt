use Rattle.std.proofs.Common.{refl}
use Rattle.std.specs.Option.{option_map}
use Rattle.std.specs.Str.{str_to_ascii_lowercase}
use Rattle.gitconfig.proofs.ReadingLemmas.{pushed_setting, variable_read}
use Rattle.gitconfig.proofs.reading.Reading.read_setting.Goals as goal

pub returns-clause-item : goal.returns-clause-item
returns-clause-item g c = (
  str_to_ascii_lowercase c.split_name.result.0.now,
  option_map (λ value. value.items) c.in_ok-value.value,
  variable_read c.args.text.now c.split_name.result.0.now c.split_name.result.1.now c.split_blanks.result.0.now c.split_blanks.result.1.now c.in_ok-value.rest.now (option_map (λ value. value.items) c.in_ok-value.value) c.split_name.ensures.parts c.split_blanks.ensures.parts (c.begins_with_letter.ensures.0 c.if-not-begins_with_letter.false) c.split_name.ensures.each c.split_blanks.ensures.each c.in_ok-value.ensures.value,
  (pushed_setting c.args.self.now.settings.items c.push.new.self.items c.in_ok-setting.setting _ c.in_ok-push.ensures.items (rw c.as_slice.ensures.value at c.in_ok-setting.ensures), refl),
)
