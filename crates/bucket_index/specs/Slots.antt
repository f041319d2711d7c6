-- What a bucket index means: its slots are the keys of its cells; all else about its memory is its own affair.
use Rattle.std.specs.Prelude.{List, Option}
use Rattle.keys.specs.declared.code.CodeKey.{CodeKey}
use Rattle.bucket_index.specs.Chains.{keys_in}
use Rattle.bucket_index.specs.declared.bucket.BucketIndex.{BucketIndex}

-- the slots of the index
abbrev pub keys_of : BucketIndex → List (Option CodeKey)
keys_of index = keys_in index.memory.cells
