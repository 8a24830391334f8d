-- The kinds of refusal, by number and in words.
use Rattle.std.specs.Prelude.{ℕ, List, codes}
use Rattle.scan.specs.declared.kind.ParseErrorKind.{ParseErrorKind}
use Rattle.scan.specs.declared.kind.ParseErrorKind.TheVariants.{OutOfRange, Impossible, Invalid, TooShort, TooLong, BadFormat, NotText}

abbrev pub kind_number : ParseErrorKind → ℕ
kind_number OutOfRange = 1
kind_number Impossible = 2
kind_number Invalid = 3
kind_number TooShort = 4
kind_number TooLong = 5
kind_number BadFormat = 6
kind_number NotText = 7

abbrev pub kind_text : ParseErrorKind → List ℕ
kind_text OutOfRange = codes "input is out of range"
kind_text Impossible = codes "no possible date and time matching input"
kind_text Invalid = codes "input contains invalid characters"
kind_text TooShort = codes "premature end of input"
kind_text TooLong = codes "trailing input"
kind_text BadFormat = codes "bad or unsupported format string"
kind_text NotText = codes "input is not UTF-8"
