-- The advertised capabilities are well-formed.
use Rattle.std.proofs.Common.{◌≡◌, All, true, None, refl, arith}
use Rattle.std.specs.Prelude.{codes}
use Rattle.std.proofs.lemmas.List.Elements.{All-from_recursion}
use Rattle.gname.specs.declared.formats.Format.TheVariants.{Sha1, Sha256}
use Rattle.gname.specs.Formats.{format_name}
use Rattle.gname.specs.declared.formats.Format.{Format}
use Rattle.ggrammar.specs.Capabilities.{IsWellFormed, is_key, is_value}
use Rattle.ghello.specs.Adverts.{is_capability}
use Rattle.ghello.specs.Offers.{check_fault, has_feature}
use Rattle.ganswer.specs.Adverts.{advertisement, key, key_with}
use Rattle.ganswer.specs.Laws.{AdvertsWelcome}

pub agent : is_capability (key_with (codes "agent") (codes "gitv2/1")) ≡ true
unfolding is_key is_value
agent = refl

pub ls_refs : is_capability (key_with (codes "ls-refs") (codes "unborn")) ≡ true
unfolding is_key is_value
ls_refs = refl

pub fetch : is_capability (key (codes "fetch")) ≡ true
unfolding is_key is_value
fetch = refl

pub object_format : (format : Format) → is_capability (key_with (codes "object-format") (format_name format)) ≡ true
unfolding is_key is_value
object_format Sha1 = refl
object_format Sha256 = refl

-- ---- the advertisement

format_form : (format : Format) → IsWellFormed (key_with (codes "object-format") (format_name format))
unfolding is_key is_value
format_form Sha1 = record { key = refl; value = refl }
format_form Sha256 = record { key = refl; value = refl }

all_well_formed : (format : Format) → All IsWellFormed (advertisement format)
unfolding is_key is_value
all_well_formed format =
    All-from_recursion IsWellFormed (advertisement format) (
      record { key = refl; value = refl },
      (record { key = refl; value = refl }, (record { key = refl; value = tt }, (format_form format, tt))),
    )

goes_on : (format : Format) → check_fault format (advertisement format) ≡ None
goes_on Sha1 = refl
goes_on Sha256 = refl

lists_unborn : (format : Format) → has_feature (codes "ls-refs") (codes "unborn") (advertisement format) ≡ true
lists_unborn format = refl

pub adverts_welcome : AdvertsWelcome
adverts_welcome format = record {
  form = record { each = all_well_formed format; few = omega arith };
  goes_on = goes_on format;
  unborn = lists_unborn format;
}
