-- How long a record of a table is, for the check to use. Assumes nothing.
use Rattle.laws.specs.Layout.{length-record_in}

pub ruleset record_sizes = (length-record_in)
