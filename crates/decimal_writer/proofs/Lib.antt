mod WriteLaws
mod PlaceLaws
