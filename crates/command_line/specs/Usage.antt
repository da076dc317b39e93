-- What the words of a command line come to where they ask for no run.
use Rattle.std.specs.Prelude.{ℕ, Bool, true, false, if◌then◌else◌, List, ◌++◌, codes}
use Rattle.clap.specs.Words.{App}
use Rattle.clap.specs.declared.error.kind.ErrorKind.{ErrorKind}
use Rattle.clap.specs.declared.error.kind.ErrorKind.TheVariants.{DisplayHelp, DisplayVersion}

-- a command with a version
abbrev pub with_version : App → App
with_version app = record app { top = record app.top { has_version = true } }

-- help or the version was asked for, which is no fault
abbrev pub is_request : ErrorKind → Bool
is_request DisplayHelp = true
is_request DisplayVersion = true
is_request _ = false

-- the status of what is told of the words: 0 where it was asked for, 2 for a fault
abbrev pub status_of : ErrorKind → ℕ
status_of kind = if is_request kind then 0 else 2

-- what is told where a word isn't UTF-8, of a program that is called so
abbrev pub bad_words_text : List ℕ → List ℕ
bad_words_text usage =
    codes "error: invalid UTF-8 was detected in one or more arguments\n\nUsage: " ++ usage
    ++ codes "\n\nFor more information, try '--help'.\n"
